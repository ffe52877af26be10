-- What single characters mean in commands.
use Rattle.std.specs.Prelude.{ℕ, ◌==◌, ◌&&◌, ◌||◌, not, Bool}
use Rattle.std.specs.Char.Unicode.Alphabetic.{is_alphabetic}
use Rattle.std.specs.Char.Unicode.Numeric.{is_numeric}

-- what stands between words: a space or a tab
abbrev pub is_blank : ℕ → Bool
is_blank c = c == 32 || c == 9

-- what stands between commands: a newline or a semicolon
abbrev pub ends_command : ℕ → Bool
ends_command c = c == 10 || c == 59

-- what ends a plain word
abbrev pub ends_word : ℕ → Bool
ends_word c = is_blank c || ends_command c

-- what has a meaning at a word's start: % ' " #
abbrev pub is_opening : ℕ → Bool
is_opening c = c == 37 || c == 39 || c == 34 || c == 35

-- whether a backslash has a character stand for itself, at a word's start or not
abbrev pub is_escapable : Bool → ℕ → Bool
is_escapable start c = ends_word c || (start && is_opening c)

-- a mark that may open a form behind `%`: neither a letter, a number nor a blank
abbrev pub is_mark : ℕ → Bool
is_mark c = not (is_alphabetic c || (is_numeric c || is_blank c))
