-- Where the begins of shifts end, as they are found one after another.
use Rattle.std.proofs.Common.{◌≡◌, ℕ, zero, suc, ◌+◌, ◌-◌, ◌<◌, ◌≤◌, true, false, cond, List, [], ◌∷◌, ◌++◌, length, drop, get_or, refl, sym, ap, ◌∙◌, arith, length-drop}
use Rattle.std.proofs.lemmas.List.{drop_more, drop_all, get_or_push, get_or_append_left, length_push}
use Rattle.text_model.specs.declared.coords.Coord.{Coord}
use Rattle.text_model.specs.declared.coords.Shift.{Shift}
use Rattle.selection_map.specs.Rebasing.{mapped}
use Rattle.edit_ops.specs.Passing.{is_same, ended, homes, no_shift}
use Rattle.edit_ops.specs.Left.{HasHome}

pub length-homes : (ss : List Shift) → length (homes ss) ≡ length ss
length-homes [] = refl
length-homes (s ∷ ss) = length_push (homes ss) (ended ss (mapped s s.begin)) ∙ omega (arith, length-homes ss)

homes-at : (ss : List Shift) (k : ℕ) (d : Coord) → k < length ss → get_or (homes ss) (length ss - 1 - k) d ≡ ended (drop (k + 1) ss) (mapped (get_or ss k no_shift) (get_or ss k no_shift).begin)
homes-at [] k d h = absurd (omega arith)
homes-at (s ∷ ss) zero d h =
    let e : length (s ∷ ss) - 1 - 0 ≡ length ss = omega arith in
    ap (λ i. get_or (homes (s ∷ ss)) i d) e ∙ get_or_push (homes ss) (ended ss (mapped s s.begin)) d (length ss) (length-homes ss)
homes-at (s ∷ ss) (suc k) d h =
    let e : length (s ∷ ss) - 1 - suc k ≡ length ss - 1 - k = omega arith in
    let f : suc k + 1 ≡ suc (k + 1) = omega arith in
    ap (λ i. get_or (homes (s ∷ ss)) i d) e ∙ get_or_append_left (homes ss) (ended ss (mapped s s.begin) ∷ []) d (length ss - 1 - k) (omega (arith, length-homes ss))
    ∙ homes-at ss k d (omega arith) ∙ ap (λ i. ended (drop i (s ∷ ss)) (mapped (get_or ss k no_shift) (get_or ss k no_shift).begin)) (sym f)

-- those of all shifts have each home
pub home-of-all : (shifts : List Shift) (all : List Coord) (next : ℕ) → all ≡ homes shifts → HasHome shifts all next
home-of-all shifts all next e = record {
  inside = λ h. omega (arith, ap length e, length-homes shifts);
  is_home = λ d h. ap (λ xs. get_or xs (length shifts - 1 - next) d) e ∙ homes-at shifts next d h;
}

-- those of the last shifts have the home of the first of them
pub home-of-rest : (shifts : List Shift) (some : List Coord) (next : ℕ) → some ≡ homes (drop next shifts) → HasHome shifts some next
home-of-rest shifts some next e = record {
  inside = λ h. omega (arith, ap length e, length-homes (drop next shifts), length-drop next shifts);
  is_home = λ d h.
      (let more : drop next shifts ≡ get_or shifts next no_shift ∷ drop (next + 1) shifts = drop_more shifts next no_shift h in
      let s : Shift = get_or shifts next no_shift in
      let at : length (homes (drop (next + 1) shifts)) ≡ length shifts - 1 - next = omega (arith, length-homes (drop (next + 1) shifts), length-drop (next + 1) shifts) in
      ap (λ xs. get_or xs (length shifts - 1 - next) d) (e ∙ ap homes more) ∙ get_or_push (homes (drop (next + 1) shifts)) (ended (drop (next + 1) shifts) (mapped s s.begin)) d (length shifts - 1 - next) at);
}

-- one more
pub homes-more : (shifts : List Shift) (left : ℕ) → left < length shifts
    → homes (drop left shifts) ≡ homes (drop (left + 1) shifts) ++ ended (drop (left + 1) shifts) (mapped (get_or shifts left no_shift) (get_or shifts left no_shift).begin) ∷ []
homes-more shifts left h = ap homes (drop_more shifts left no_shift h)

-- the test for a home
pub ended-there : (shifts : List Shift) (next : ℕ) (at : Coord) → next < length shifts → is_same (get_or shifts next no_shift).begin at ≡ true
    → ended (drop next shifts) at ≡ ended (drop (next + 1) shifts) (mapped (get_or shifts next no_shift) (get_or shifts next no_shift).begin)
ended-there shifts next at h e =
    let s : Shift = get_or shifts next no_shift in
    ap (λ ss. ended ss at) (drop_more shifts next no_shift h) ∙ ap (λ v. cond v (ended (drop (next + 1) shifts) (mapped s s.begin)) at) e

pub ended-elsewhere : (shifts : List Shift) (next : ℕ) (at : Coord) → next < length shifts → is_same (get_or shifts next no_shift).begin at ≡ false → ended (drop next shifts) at ≡ at
ended-elsewhere shifts next at h e =
    let s : Shift = get_or shifts next no_shift in
    ap (λ ss. ended ss at) (drop_more shifts next no_shift h) ∙ ap (λ v. cond v (ended (drop (next + 1) shifts) (mapped s s.begin)) at) e

pub ended-none : (shifts : List Shift) (next : ℕ) (at : Coord) → length shifts ≤ next → ended (drop next shifts) at ≡ at
ended-none shifts next at h = ap (λ ss. ended ss at) (drop_all next shifts h)
