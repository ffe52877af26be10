-- Commands that were read before a reading.
use Rattle.std.proofs.Common.{◌≡◌, ℕ, zero, suc, ◌+◌, drop, get_or, ◌<◌, ◌≤◌, List, [], ◌∷◌, ◌++◌, length, Bool, true, false, cond, Result, Ok, Err, refl, ap, sym, ◌∙◌, append_assoc, arith}
use Rattle.kak_words.specs.declared.parts.Command.{Command}
use Rattle.std.proofs.lemmas.List.{drop_more}
use Rattle.kak_words.specs.declared.placed.Placed.{Placed}
use Rattle.kak_words.specs.declared.parts.Word.{Word}
use Rattle.kak_words.specs.declared.parts.WordError.{WordError}
use Rattle.kak_words.specs.declared.parts.WordError.TheVariants.{Unclosed, UnknownExpansion, NoMemory}
use Rattle.kak_words.specs.Results.{then_with, then_as}
use Rattle.kak_words.specs.Characters.{is_blank, ends_command}
use Rattle.kak_words.specs.Closing.{placed_from}
use Rattle.kak_words.specs.Errors.{IsUnclosed}
use Rattle.kak_words.specs.Reading.{WordRead, first_word, past_comment, command_on, begins_comment, commands_from}

-- commands that were read before others
abbrev pub commands_before : List Command → Result (List Command) ℕ → Result (List Command) ℕ
commands_before done (Ok more) = Ok (done ++ more)
commands_before done (Err at) = Err at

pub commands_before-none : (r : Result (List Command) ℕ) → commands_before [] r ≡ r
commands_before-none (Ok more) = refl
commands_before-none (Err at) = refl

pub length-placed_from : (n : ℕ) (cs : List ℕ) → length (placed_from n cs) ≡ length cs
length-placed_from n [] = refl
length-placed_from n (c ∷ cs) = ap suc (length-placed_from (n + 1) cs)

pub placed_from-more : (cs : List ℕ) (n i d : ℕ) (list all : List Placed) → i < length cs → list ++ placed_from i (drop i cs) ≡ all → (list ++ record { at = i; c = get_or cs i d } ∷ []) ++ placed_from (i + 1) (drop (i + 1) cs) ≡ all
placed_from-more cs n i d list all inside h =
    append_assoc list (record { at = i; c = get_or cs i d } ∷ []) (placed_from (i + 1) (drop (i + 1) cs))
    ∙ ap (λ rest. list ++ placed_from i rest) (sym (drop_more cs i d inside)) ∙ h

-- a command's end
command_on-append : (words : List Word) (more : List Command) → command_on words [] ++ more ≡ command_on words more
command_on-append [] more = refl
command_on-append (w ∷ ws) more = refl

before-end : (done : List Command) (words : List Word) (r : Result (List Command) ℕ) → commands_before (done ++ command_on words []) r ≡ commands_before done (then_as (command_on words) r)
before-end done words (Ok more) = ap Ok (append_assoc done (command_on words []) more ∙ ap (λ cs. done ++ cs) (command_on-append words more))
before-end done words (Err at) = refl

-- what is read from a character on, by the tests of it
abbrev pub read_step : ℕ → List Word → Placed → List Placed → Bool → Bool → Bool → Result (List Command) ℕ
read_step m words p ps blank ends comment =
    cond blank (commands_from m words ps) (cond ends (then_as (command_on words) (commands_from m [] ps)) (cond comment (commands_from m words (past_comment ps))
    (then_with (λ (r : WordRead). commands_from m (words ++ r.word ∷ []) r.rest) (first_word p ps))))

read_by : (m : ℕ) (words : List Word) (p : Placed) (ps rest : List Placed) (blank ends comment : Bool) → rest ≡ p ∷ ps → is_blank p.c ≡ blank → ends_command p.c ≡ ends → begins_comment p.c words ≡ comment → commands_from (suc m) words rest ≡ read_step m words p ps blank ends comment
read_by m words p ps rest blank ends comment split b e k =
    ap (commands_from (suc m) words) split
    ∙ ap (λ t. read_step m words p ps t (ends_command p.c) (begins_comment p.c words)) b
    ∙ ap (λ t. read_step m words p ps blank t (begins_comment p.c words)) e
    ∙ ap (λ t. read_step m words p ps blank ends t) k

pub on-end : (done commands : List Command) (words : List Word) (p : Placed) (ps rest : List Placed) (n : ℕ) (all : Result (List Command) ℕ) → rest ≡ p ∷ ps → is_blank p.c ≡ false → ends_command p.c ≡ true → commands ≡ done ++ command_on words [] → length rest ≤ n → commands_before done (commands_from n words rest) ≡ all → (m : ℕ) × (length ps ≤ m) × (commands_before commands (commands_from m [] ps) ≡ all)
on-end done commands words p ps rest zero all split blank ends pushed fits h = absurd (omega (arith, ap length split))
on-end done commands words p ps rest (suc m) all split blank ends pushed fits h =
    let step = read_by m words p ps rest false true (begins_comment p.c words) split blank ends refl in
    (m, omega (arith, ap length split), ap (λ cs. commands_before cs (commands_from m [] ps)) pushed ∙ before-end done words (commands_from m [] ps) ∙ ap (commands_before done) (sym step) ∙ h)

pub on-comment : (done : List Command) (words : List Word) (p : Placed) (ps rest behind : List Placed) (n : ℕ) (all : Result (List Command) ℕ) → rest ≡ p ∷ ps → is_blank p.c ≡ false → ends_command p.c ≡ false → begins_comment p.c words ≡ true → behind ≡ past_comment ps → length behind ≤ length ps → length rest ≤ n → commands_before done (commands_from n words rest) ≡ all → (m : ℕ) × (length behind ≤ m) × (commands_before done (commands_from m words behind) ≡ all)
on-comment done words p ps rest behind zero all split blank ends comment past shorter fits h = absurd (omega (arith, ap length split))
on-comment done words p ps rest behind (suc m) all split blank ends comment past shorter fits h =
    let step = read_by m words p ps rest false false true split blank ends comment in
    (m, omega (arith, ap length split), ap (λ qs. commands_before done (commands_from m words qs)) past ∙ ap (commands_before done) (sym step) ∙ h)

pub on-word : (done : List Command) (words more : List Word) (word : Word) (p : Placed) (ps rest behind : List Placed) (n : ℕ) (all : Result (List Command) ℕ) → rest ≡ p ∷ ps → is_blank p.c ≡ false → ends_command p.c ≡ false → begins_comment p.c words ≡ false → first_word p ps ≡ Ok (record { word = word; rest = behind }) → length behind ≤ length ps → more ≡ words ++ word ∷ [] → length rest ≤ n → commands_before done (commands_from n words rest) ≡ all → (m : ℕ) × (length behind ≤ m) × (commands_before done (commands_from m more behind) ≡ all)
on-word done words more word p ps rest behind zero all split blank ends comment read shorter pushed fits h = absurd (omega (arith, ap length split))
on-word done words more word p ps rest behind (suc m) all split blank ends comment read shorter pushed fits h =
    let step = read_by m words p ps rest false false false split blank ends comment ∙ ap (then_with (λ (r : WordRead). commands_from m (words ++ r.word ∷ []) r.rest)) read in
    (m, omega (arith, ap length split), ap (λ ws. commands_before done (commands_from m ws behind)) pushed ∙ ap (commands_before done) (sym step) ∙ h)

-- a word that isn't closed
pub unclosed-word : (e : WordError) (done : List Command) (words : List Word) (p : Placed) (ps rest : List Placed) (n : ℕ) (all : Result (List Command) ℕ) → rest ≡ p ∷ ps → is_blank p.c ≡ false → ends_command p.c ≡ false → begins_comment p.c words ≡ false → IsUnclosed e (first_word p ps) → length rest ≤ n → commands_before done (commands_from n words rest) ≡ all → IsUnclosed e all
unclosed-word (Unclosed at) done words p ps rest zero all split blank ends comment unclosed fits h = absurd (omega (arith, ap length split))
unclosed-word (Unclosed at) done words p ps rest (suc m) all split blank ends comment unclosed fits h =
    let step = read_by m words p ps rest false false false split blank ends comment ∙ ap (then_with (λ (r : WordRead). commands_from m (words ++ r.word ∷ []) r.rest)) unclosed in
    sym h ∙ ap (commands_before done) step
unclosed-word (UnknownExpansion name) done words p ps rest n all split blank ends comment unclosed fits h = unclosed
unclosed-word NoMemory done words p ps rest n all split blank ends comment unclosed fits h = tt
