-- Lemmas on a line that is split into lines.
use Rattle.std.proofs.Common.{◌≡◌, ◌≢◌, ℕ, zero, suc, ◌+◌, ◌-◌, ◌<◌, ◌≤◌, List, [], ◌∷◌, ◌++◌, length, take, drop, get_or, set, All, sym, ap, ap₂, ◌∙◌, arith, append_assoc, append-nil, length-append, length-take-le, length-drop, get_or-take, get_or-drop, take_at, drop_at, take-append-drop}
use Rattle.std.proofs.lemmas.List.{get_or_default, set_split, drop_all}
use Rattle.std.proofs.lemmas.List.Elements.{All-append}
use Rattle.text_model.specs.Texts.{IsText, IsLine, lines_of, joined}
use Rattle.text_model.proofs.PlaceLemmas.{All-lines_of, some_lines}
use Rattle.text_model.proofs.LineLemmas.{joined-append, joined-lines_of, lines_of-joined, lines_of-line}
use Rattle.text_model.proofs.ChangeLemmas.{IsText-append}
use Rattle.line_buffer.proofs.BufferLemmas.{longer_line, one_line, end_is_line, lines_of-longer}

-- up to and with a newline
pub text_up_to : (cs : List ℕ) (n m : ℕ) → 0 < n → n ≤ length cs → m ≡ n - 1 → get_or cs m 0 ≡ 10 → IsText (take n cs)
text_up_to cs n m some le e h =
    let long : length (take n cs) ≡ n = length-take-le n cs le in
    record {
      some = omega arith;
      ended = ap (λ k. get_or (take n cs) (k - 1) 0) long ∙ get_or-take n cs (n - 1) 0 (omega arith) ∙ ap (λ i. get_or cs i 0) (sym e) ∙ h;
    }

-- no newline behind a place, nor right before it
pub none_from : (cs : List ℕ) (n m : ℕ) → 0 < n → n ≤ length cs → m ≡ n - 1 → get_or cs m 0 ≢ 10 → All (λ x. x ≢ 10) (drop n cs) → All (λ x. x ≢ 10) (drop m cs)
none_from cs n m some le e here none zero d lt q =
    let same : m ≡ m + 0 = omega arith in
    here (get_or_default cs m 0 d (omega arith) ∙ ap (λ i. get_or cs i d) same ∙ sym (get_or-drop m cs 0 d) ∙ q)
none_from cs n m some le e here none (suc k) d lt q =
    let same : n + k ≡ m + suc k = omega arith in
    none k d (omega (arith, length-drop m cs, length-drop n cs)) (get_or-drop n cs k d ∙ ap (λ i. get_or cs i d) same ∙ sym (get_or-drop m cs (suc k) d) ∙ q)

-- no newline behind the end
pub none_behind : (cs : List ℕ) (n : ℕ) → n ≡ length cs → All (λ x. x ≢ 10) (drop n cs)
none_behind cs n e k d lt q = absurd (omega (arith, length-drop n cs))

-- characters that are no newlines before a line
pub ended_line : (s l : List ℕ) → All (λ x. x ≢ 10) s → IsLine l → IsLine (s ++ l)
ended_line s l none h = longer_line l 0 s h h.some none

-- the characters before a column are no newlines
pub begin_of_line : (l : List ℕ) (c : ℕ) → IsLine l → c < length l → All (λ x. x ≢ 10) (take c l)
begin_of_line l c h lt k d lt' e =
    let long : length (take c l) ≡ c = length-take-le c l (omega arith) in
    h.only k (omega arith) (get_or_default l k 0 d (omega arith) ∙ sym (get_or-take c l k d (omega arith)) ∙ e)

-- whole lines, and one behind them
pub lines_of-behind : (s l : List ℕ) → IsText s → IsLine l → lines_of (s ++ l) ≡ lines_of s ++ (l ∷ [])
lines_of-behind s l h k =
    let flat : joined (lines_of s ++ (l ∷ [])) ≡ s ++ l = joined-append (lines_of s) (l ∷ []) ∙ ap₂ (λ x y. x ++ y) (joined-lines_of s) (append-nil l) in
    ap lines_of (sym flat) ∙ lines_of-joined (lines_of s ++ (l ∷ [])) (All-append IsLine (lines_of s) (l ∷ []) (All-lines_of s h) (one_line l k))

-- a line alone
pub alone : (s rest last : List ℕ) (e : ℕ) → e ≡ 0 → All (λ x. x ≢ 10) (drop e s) → IsLine rest → last ≡ drop e s ++ rest → last ∷ [] ≡ lines_of (s ++ rest)
alone s rest last e z none h l =
    let whole : drop e s ≡ s = ap (λ n. drop n s) z in
    ap (λ t. t ∷ []) l ∙ sym (lines_of-line (drop e s ++ rest) [] (ended_line (drop e s) rest none h)) ∙ ap lines_of (append-nil (drop e s ++ rest) ∙ ap (λ t. t ++ rest) whole)

-- whole lines, and a line of what is behind them and the end of another
pub with_end : (s rest last : List ℕ) (e : ℕ) (lines new : List (List ℕ)) → IsText (take e s) → All (λ x. x ≢ 10) (drop e s) → IsLine rest → last ≡ drop e s ++ rest → lines ≡ lines_of (take e s) → new ≡ lines ++ (last ∷ []) → new ≡ lines_of (s ++ rest)
with_end s rest last e lines new text none h l w n =
    n ∙ ap₂ (λ x y. x ++ (y ∷ [])) w l ∙ sym (lines_of-behind (take e s) (drop e s ++ rest) text (ended_line (drop e s) rest none h)) ∙ ap lines_of (sym (append_assoc (take e s) (drop e s) rest) ∙ ap (λ t. t ++ rest) (take-append-drop e s))

-- whole lines, the first of them with the begin of another line before it
pub with_begin : (l t first x : List ℕ) (fresh new : List (List ℕ)) (c : ℕ) → IsLine l → c < length l → IsText t → fresh ≡ lines_of t → x ≡ get_or fresh 0 x → first ≡ take c l ++ x → new ≡ set fresh 0 first → new ≡ lines_of (take c l ++ t)
with_begin l t first x [] new c h lt k e g p n = absurd (omega (arith, ap length e, some_lines t k))
with_begin l t first x (f ∷ rest) new c h lt k e g p n =
    n ∙ ap (λ y. y ∷ rest) (p ∙ ap (λ y. take c l ++ y) g) ∙ sym (lines_of-longer l t f rest c h lt k (sym e))

-- the last line with whole lines and characters behind them put in: its begin is copied before it, and its end stays
pub kept_end : (front mid less fresh more new : List (List ℕ)) (n c : ℕ) (lines s x : List ℕ) → n + 1 ≡ length front → IsLine (get_or front n []) → c < length (get_or front n []) → IsText lines → All (λ y. y ≢ 10) s → mid ≡ set front n (s ++ drop c (get_or front n [])) → mid ≡ less ++ (x ∷ []) → fresh ≡ lines_of (take c (get_or front n []) ++ lines) → more ≡ fresh ++ (x ∷ []) → new ≡ less ++ more → new ≡ take n front ++ lines_of (take c (get_or front n []) ++ ((lines ++ s) ++ drop c (get_or front n [])))
kept_end front mid less fresh more new n c lines s x l h lt text none m p f w v =
    let line : List ℕ = get_or front n [] in
    let last : List ℕ = s ++ drop c line in
    let past : drop (suc n) front ≡ [] = drop_all (suc n) front (omega arith) in
    let set_last : mid ≡ take n front ++ (last ∷ []) = m ∙ set_split front n last (omega arith) ∙ ap (λ t. take n front ++ (last ∷ t)) past in
    let before : length (take n front) ≡ n = length-take-le n front (omega arith) in
    let long : length less ≡ n = omega (arith, ap length (sym p ∙ set_last), length-append less (x ∷ []), length-append (take n front) (last ∷ [])) in
    let front_is : less ≡ take n front = sym (take_at less (x ∷ []) n long) ∙ ap (take n) (sym p ∙ set_last) ∙ take_at (take n front) (last ∷ []) n before in
    let last_is : x ∷ [] ≡ last ∷ [] = sym (drop_at less (x ∷ []) n long) ∙ ap (drop n) (sym p ∙ set_last) ∙ drop_at (take n front) (last ∷ []) n before in
    let ended : IsLine last = ended_line s (drop c line) none (end_is_line line c h lt) in
    let cut : lines_of ((take c line ++ lines) ++ last) ≡ lines_of (take c line ++ lines) ++ (last ∷ []) = lines_of-behind (take c line ++ lines) last (IsText-append (take c line) lines text) ended in
    v ∙ ap₂ (λ a b. a ++ b) front_is (w ∙ ap₂ (λ a b. a ++ b) f last_is) ∙ ap (λ t. take n front ++ t) (sym cut ∙ ap lines_of (sym (regrouped (take c line) lines s (drop c line))))
  where
    regrouped : (a b d e : List ℕ) → a ++ ((b ++ d) ++ e) ≡ (a ++ b) ++ (d ++ e)
    regrouped a b d e = simp append_assoc
