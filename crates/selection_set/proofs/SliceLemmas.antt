-- The steps of the sweep over a slice, in place.
use Rattle.std.proofs.Common.{◌≡◌, ℕ, suc, ◌+◌, ◌-◌, ◌<◌, ◌≤◌, true, false, List, [], ◌∷◌, ◌++◌, length, take, drop, get_or, set, refl, sym, ap, ap₂, ◌∙◌, arith, append_assoc, add-one}
use Rattle.std.proofs.Math.Seq.{drop-cons, drop-length}
use Rattle.std.proofs.lemmas.List.{take_more_set, drop-set-lt}
use Rattle.text_model.specs.Coords.{is_at_most}
use Rattle.list_model.specs.Settling.{sweep, sweep_place}
use Rattle.list_model.proofs.SweepLemmas.{sweep-due, sweep-apart, place-due, place-apart}
use Rattle.selection_set.specs.declared.sel.Sel.{Sel}
use Rattle.selection_set.specs.Sweeping.{joined_sel, by_coords, swept_sels, swept_sels_place}

-- what is written, the open selection and the rest make the sweep; so do the places, while the main one is ahead
pub record IsSweeping (all : List Sel) (main : ℕ) (list : List Sel) (i at : ℕ) (current : Sel) : Type 0 where
  pub written : take at list ++ sweep by_coords current (drop i list) ≡ swept_sels all
  pub behind : at < i
  pub main_ahead : i ≤ main + 1 → at + sweep_place by_coords current (drop i list) (main + 1 - i) ≡ swept_sels_place all main

rest-cons : (list : List Sel) (i : ℕ) (d : Sel) → i < length list → drop i list ≡ get_or list i d ∷ drop (i + 1) list
rest-cons list i d h = drop-cons list i d h ∙ ap (λ j. get_or list i d ∷ drop j list) (sym (add-one i))

pub sweeping-first : (list : List Sel) (main : ℕ) (d : Sel) → main < length list → IsSweeping list main list 1 0 (get_or list 0 d)
sweeping-first [] main d h = absurd (omega arith)
sweeping-first (s ∷ ss) main d h = record {
  written = refl;
  behind = omega arith;
  main_ahead = λ k. let e : main + 1 - 1 ≡ main = omega arith in let f : 0 + sweep_place by_coords s ss (main + 1 - 1) ≡ sweep_place by_coords s ss (main + 1 - 1) = omega arith in f ∙ ap (λ n. sweep_place by_coords s ss n) e;
}

pub sweeping-due : (all : List Sel) (main : ℕ) (list : List Sel) (i at : ℕ) (current next d : Sel) → i < length list → next ≡ get_or list i d → is_at_most next.low current.high ≡ true → IsSweeping all main list i at current → IsSweeping all main list (i + 1) at (joined_sel current next)
sweeping-due all main list i at current next d l n due h =
    let rest : drop i list ≡ next ∷ drop (i + 1) list = rest-cons list i d l ∙ ap (λ s. s ∷ drop (i + 1) list) (sym n) in
    record {
      written = ap (λ t. take at list ++ t) (sym (ap (sweep by_coords current) rest ∙ sweep-due by_coords current next (drop (i + 1) list) due)) ∙ h.written;
      behind = omega (arith, h.behind);
      main_ahead = λ k. (let m : main + 1 - i ≡ suc (main + 1 - (i + 1)) = omega arith in
          ap (λ p. at + p) (sym (ap₂ (λ t p. sweep_place by_coords current t p) rest m ∙ place-due by_coords current next (drop (i + 1) list) (main + 1 - (i + 1)) due)) ∙ h.main_ahead (omega arith));
    }

pub sweeping-apart : (all : List Sel) (main : ℕ) (list : List Sel) (i at : ℕ) (current next d : Sel) → i < length list → next ≡ get_or list i d → is_at_most next.low current.high ≡ false → IsSweeping all main list i at current → IsSweeping all main (set list at current) (i + 1) (at + 1) next
sweeping-apart all main list i at current next d l n apart h =
    let rest : drop i list ≡ next ∷ drop (i + 1) list = rest-cons list i d l ∙ ap (λ s. s ∷ drop (i + 1) list) (sym n) in
    let kept : drop (i + 1) (set list at current) ≡ drop (i + 1) list = drop-set-lt (i + 1) list at current (omega (arith, h.behind)) in
    record {
      written =
          ap₂ (λ t u. t ++ sweep by_coords next u) (take_more_set list at current (omega (arith, h.behind))) kept ∙ append_assoc (take at list) (current ∷ []) (sweep by_coords next (drop (i + 1) list)) ∙ ap (λ t. take at list ++ t) (sym (ap (sweep by_coords current) rest ∙ sweep-apart by_coords current next (drop (i + 1) list) apart)) ∙ h.written;
      behind = omega (arith, h.behind);
      main_ahead = λ k. (let m : main + 1 - i ≡ suc (main + 1 - (i + 1)) = omega arith in
          let place : sweep_place by_coords current (drop i list) (main + 1 - i) ≡ suc (sweep_place by_coords next (drop (i + 1) list) (main + 1 - (i + 1))) = ap₂ (λ t p. sweep_place by_coords current t p) rest m ∙ place-apart by_coords current next (drop (i + 1) list) (main + 1 - (i + 1)) apart in
          let before : at + sweep_place by_coords current (drop i list) (main + 1 - i) ≡ swept_sels_place all main = h.main_ahead (omega arith) in
          ap (λ t. (at + 1) + sweep_place by_coords next t (main + 1 - (i + 1))) kept ∙ omega arith);
    }

-- where the main one was taken in last, it is in the open selection
pub sweeping-main : (all : List Sel) (main : ℕ) (list : List Sel) (at : ℕ) (current : Sel) → IsSweeping all main list (main + 1) at current → at ≡ swept_sels_place all main
sweeping-main all main list at current h =
    let none : main + 1 - (main + 1) ≡ 0 = omega arith in
    let before : at + sweep_place by_coords current (drop (main + 1) list) (main + 1 - (main + 1)) ≡ swept_sels_place all main = h.main_ahead (omega arith) in
    let place : sweep_place by_coords current (drop (main + 1) list) (main + 1 - (main + 1)) ≡ 0 = ap (λ n. sweep_place by_coords current (drop (main + 1) list) n) none in
    omega arith

pub sweeping-last : (all : List Sel) (main : ℕ) (list : List Sel) (i at : ℕ) (current : Sel) → i ≡ length list → IsSweeping all main list i at current → take (at + 1) (set list at current) ≡ swept_sels all
sweeping-last all main list i at current e h =
    let none : drop i list ≡ [] = ap (λ n. drop n list) e ∙ drop-length list in
    take_more_set list at current (omega (arith, h.behind)) ∙ ap (λ t. take at list ++ sweep by_coords current t) (sym none) ∙ h.written
