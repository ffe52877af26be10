-- The classes of characters, which word motions go by.
use Rattle.std.specs.Prelude.{ℕ, Bool, true, false, ◌==◌, ◌||◌, if◌then◌else◌}
use Rattle.unicode.specs.Binary.{is_alphabetic}
use Rattle.unicode.specs.GeneralCategory.{general_category, general_category_eq}
use Rattle.ucd_category.specs.declared.GeneralCategory.{GeneralCategory}
use Rattle.ucd_category.specs.declared.GeneralCategory.TheVariants.{DecimalNumber, LetterNumber, OtherNumber, SpaceSeparator}
use Rattle.kak_text.specs.declared.classes.Class.{Class}
use Rattle.kak_text.specs.declared.classes.Class.TheVariants.{Line, Blank, Word, Mark}

-- whether a character has a general category
abbrev pub is_category : GeneralCategory → ℕ → Bool
is_category category c = general_category_eq (general_category c) category

-- the tab (9) and the spaces
abbrev pub is_blank : ℕ → Bool
is_blank c = (c == 9) || is_category SpaceSeparator c

-- numbers: decimal digits, letters that are numbers, and others such as fractions
abbrev pub is_number : ℕ → Bool
is_number c = is_category DecimalNumber c || (is_category LetterNumber c || is_category OtherNumber c)

-- what words are made of: the low line (95), alphabetic characters and numbers
abbrev pub is_in_word : ℕ → Bool
is_in_word c = (c == 95) || (is_alphabetic c || is_number c)

-- the class of a character: the newline (10) has one of its own
abbrev pub class_of : ℕ → Class
class_of c = if c == 10 then Line else (if is_blank c then Blank else (if is_in_word c then Word else Mark))

-- the class for words that end at blanks and newlines alone
abbrev pub wide : Class → Class
wide Mark = Word
wide other = other

-- whether two classes are one
abbrev pub is_same : Class → Class → Bool
is_same Line Line = true
is_same Blank Blank = true
is_same Word Word = true
is_same Mark Mark = true
is_same _ _ = false
