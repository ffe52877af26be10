-- The pieces of a double-quoted word, some on.
use Rattle.std.proofs.Common.{◌≡◌, ℕ, suc, ◌<◌, ◌≤◌, List, [], ◌∷◌, ◌++◌, length, drop, encode_utf8, zero, Bool, true, false, cond, Some, None, Result, Ok, Err, refl, ap, sym, ◌∙◌, append_assoc, arith}
use Rattle.kak_words.specs.declared.parts.Piece.{Piece}
use Rattle.kak_words.specs.declared.parts.Piece.TheVariants.{Plain, Expansion}
use Rattle.std.proofs.lemmas.Bool.{eq-eqb, ne_eqb}
use Rattle.std.proofs.lemmas.Str.{length-encode, len_utf8_bounds}
use Rattle.kak_words.specs.declared.placed.Placed.{Placed}
use Rattle.kak_words.specs.declared.parts.Named.{Named}
use Rattle.kak_words.specs.Results.{then_with, then_as}
use Rattle.kak_words.specs.Forms.{Form, form_at}
use Rattle.kak_words.specs.Pieces.{text_on, char_on, flushed, begins_percent, named_by, pieces_on, pieces_from}

-- a text that was read before pieces, if it isn't empty
abbrev pub text_if : List ℕ → List Piece → List Piece
text_if [] ps = ps
text_if (b ∷ bs) ps = text_on (b ∷ bs) ps

-- pieces and a text that were read before a reading
abbrev pub pieces_before : List Piece → List ℕ → Result (List Piece) ℕ → Result (List Piece) ℕ
pieces_before done text (Ok more) = Ok (done ++ text_if text more)
pieces_before done text (Err at) = Err at

pub pieces_before-none : (r : Result (List Piece) ℕ) → pieces_before [] [] r ≡ r
pieces_before-none (Ok more) = refl
pieces_before-none (Err at) = refl

-- texts one behind another
text_on-text_on : (a b : List ℕ) (ps : List Piece) → text_on (a ++ b) ps ≡ text_on a (text_on b ps)
text_on-text_on a b [] = refl
text_on-text_on a b (Plain more ∷ ps) = ap (λ t. Plain t ∷ ps) (append_assoc a b more)
text_on-text_on a b (Expansion n ∷ ps) = refl

text_if-text_on : (a : List ℕ) (ps : List Piece) → 0 < length a → text_if a ps ≡ text_on a ps
text_if-text_on [] ps h = absurd (omega arith)
text_if-text_on (x ∷ xs) ps h = refl

text_if-more : (a b : List ℕ) (ps : List Piece) → 0 < length b → text_if (a ++ b) ps ≡ text_if a (text_on b ps)
text_if-more [] b ps h = text_if-text_on b ps h
text_if-more (x ∷ xs) b ps h = text_on-text_on (x ∷ xs) b ps

-- a character behind a text that was read
before-char : (done : List Piece) (text : List ℕ) (c : ℕ) (r : Result (List Piece) ℕ) → pieces_before done (text ++ encode_utf8 c) r ≡ pieces_before done text (then_as (char_on c) r)
before-char done text c (Ok more) =
    let some : 0 < length (encode_utf8 c) = omega (arith, length-encode c, (len_utf8_bounds c).0) in
    ap (λ ps. Ok (done ++ ps)) (text_if-more text (encode_utf8 c) more some)
before-char done text c (Err at) = refl

-- an expansion behind a text that was read
flushed-text_if : (text : List ℕ) (n : Named) (ps : List Piece) → flushed text ++ Expansion n ∷ ps ≡ text_if text (Expansion n ∷ ps)
flushed-text_if [] n ps = refl
flushed-text_if (b ∷ bs) n ps = refl

before-named : (done : List Piece) (text : List ℕ) (n : Named) (r : Result (List Piece) ℕ) → pieces_before ((done ++ flushed text) ++ Expansion n ∷ []) [] r ≡ pieces_before done text (then_as (λ more. Expansion n ∷ more) r)
before-named done text n (Ok more) =
    ap Ok (append_assoc (done ++ flushed text) (Expansion n ∷ []) more ∙ append_assoc done (flushed text) (Expansion n ∷ more) ∙ ap (λ ps. done ++ ps) (flushed-text_if text n more))
before-named done text n (Err at) = refl

-- one character on
on_char : (done : List Piece) (text more : List ℕ) (c m : ℕ) (behind : List Placed) (all now : Result (List Piece) ℕ) → length behind ≤ m → more ≡ text ++ encode_utf8 c → now ≡ then_as (char_on c) (pieces_from m behind) → pieces_before done text now ≡ all → (n : ℕ) × (length behind ≤ n) × (pieces_before done more (pieces_from n behind) ≡ all)
on_char done text more c m behind all now fits pushed step h =
    (m, fits, ap (λ bs. pieces_before done bs (pieces_from m behind)) pushed ∙ before-char done text c (pieces_from m behind) ∙ ap (pieces_before done text) (sym step) ∙ h)

pub on-plain : (done : List Piece) (text more : List ℕ) (p : Placed) (ps rest : List Placed) (n : ℕ) (all : Result (List Piece) ℕ) → rest ≡ p ∷ ps → (p.c ≡ 37 → ⊥) → more ≡ text ++ encode_utf8 p.c → length rest ≤ n → pieces_before done text (pieces_from n rest) ≡ all → (m : ℕ) × (length ps ≤ m) × (pieces_before done more (pieces_from m ps) ≡ all)
on-plain done text more p ps rest zero all split other pushed fits h = absurd (omega (arith, ap length split))
on-plain done text more p ps rest (suc m) all split other pushed fits h =
    let step = ap (pieces_from (suc m)) split ∙ ap (λ b. cond b (cond (begins_percent ps) (then_as (char_on 37) (pieces_from m (drop 1 ps))) (then_with (pieces_on (pieces_from m) ps) (form_at true p.at ps))) (then_as (char_on p.c) (pieces_from m ps))) (ne_eqb p.c 37 other) in
    on_char done text more p.c m ps all (pieces_from (suc m) rest) (omega (arith, ap length split)) pushed step h

-- the pieces from a `%` on
percent_step : (p : Placed) (ps rest : List Placed) (m : ℕ) (b : Bool) → rest ≡ p ∷ ps → p.c ≡ 37 → begins_percent ps ≡ b → pieces_from (suc m) rest ≡ cond b (then_as (char_on 37) (pieces_from m (drop 1 ps))) (then_with (pieces_on (pieces_from m) ps) (form_at true p.at ps))
percent_step p ps rest m b split percent begins =
    ap (pieces_from (suc m)) split
    ∙ ap (λ t. cond t (cond (begins_percent ps) (then_as (char_on 37) (pieces_from m (drop 1 ps))) (then_with (pieces_on (pieces_from m) ps) (form_at true p.at ps))) (then_as (char_on p.c) (pieces_from m ps))) (eq-eqb p.c 37 percent)
    ∙ ap (λ t. cond t (then_as (char_on 37) (pieces_from m (drop 1 ps))) (then_with (pieces_on (pieces_from m) ps) (form_at true p.at ps))) begins

pub on-doubled : (done : List Piece) (text more : List ℕ) (p : Placed) (ps rest behind : List Placed) (n : ℕ) (all : Result (List Piece) ℕ) → rest ≡ p ∷ ps → p.c ≡ 37 → begins_percent ps ≡ true → behind ≡ drop 1 ps → length behind < length ps → more ≡ text ++ encode_utf8 37 → length rest ≤ n → pieces_before done text (pieces_from n rest) ≡ all → (m : ℕ) × (length behind ≤ m) × (pieces_before done more (pieces_from m behind) ≡ all)
on-doubled done text more p ps rest behind zero all split percent begins dropped shorter pushed fits h = absurd (omega (arith, ap length split))
on-doubled done text more p ps rest behind (suc m) all split percent begins dropped shorter pushed fits h =
    on_char done text more 37 m behind all (pieces_from (suc m) rest) (omega (arith, ap length split)) pushed (percent_step p ps rest m true split percent begins ∙ ap (λ qs. then_as (char_on 37) (pieces_from m qs)) (sym dropped)) h

pub on-itself : (done : List Piece) (text more : List ℕ) (p : Placed) (ps rest : List Placed) (n : ℕ) (all : Result (List Piece) ℕ) → rest ≡ p ∷ ps → p.c ≡ 37 → begins_percent ps ≡ false → form_at true p.at ps ≡ Ok None → more ≡ text ++ encode_utf8 37 → length rest ≤ n → pieces_before done text (pieces_from n rest) ≡ all → (m : ℕ) × (length ps ≤ m) × (pieces_before done more (pieces_from m ps) ≡ all)
on-itself done text more p ps rest zero all split percent begins itself pushed fits h = absurd (omega (arith, ap length split))
on-itself done text more p ps rest (suc m) all split percent begins itself pushed fits h =
    on_char done text more 37 m ps all (pieces_from (suc m) rest) (omega (arith, ap length split)) pushed (percent_step p ps rest m false split percent begins ∙ ap (then_with (pieces_on (pieces_from m) ps)) itself) h

pub on-form : (done pieces : List Piece) (text : List ℕ) (p : Placed) (ps rest : List Placed) (form : Form) (n : ℕ) (all : Result (List Piece) ℕ) → rest ≡ p ∷ ps → p.c ≡ 37 → begins_percent ps ≡ false → form_at true p.at ps ≡ Ok (Some form) → length form.split.rest ≤ length ps → pieces ≡ (done ++ flushed text) ++ Expansion (named_by form) ∷ [] → length rest ≤ n → pieces_before done text (pieces_from n rest) ≡ all → (m : ℕ) × (length form.split.rest ≤ m) × (pieces_before pieces [] (pieces_from m form.split.rest) ≡ all)
on-form done pieces text p ps rest form zero all split percent begins found shorter pushed fits h = absurd (omega (arith, ap length split))
on-form done pieces text p ps rest form (suc m) all split percent begins found shorter pushed fits h =
    let step = percent_step p ps rest m false split percent begins ∙ ap (then_with (pieces_on (pieces_from m) ps)) found in (
      m,
      omega (arith, ap length split),
      ap (λ xs. pieces_before xs [] (pieces_from m form.split.rest)) pushed
          ∙ before-named done text (named_by form) (pieces_from m form.split.rest)
          ∙ ap (pieces_before done text) (sym step) ∙ h,
    )
