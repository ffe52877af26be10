-- Selections numbered one after another.
use Rattle.std.proofs.Common.{◌≡◌, ℕ, ◌+◌, ◌<◌, List, [], ◌∷◌, ◌++◌, length, drop, map, get_or, sym, ap, ◌∙◌, append_assoc, append-nil, add-one}
use Rattle.std.proofs.Math.Seq.{drop-cons, drop-length}
use Rattle.selection_set.specs.declared.sel.Sel.{Sel}
use Rattle.selection_set.specs.declared.order.Numbered.{Numbered}
use Rattle.selection_set.specs.Numbering.{numbered_from}

pub numbered-more : (done : List Numbered) (list : List Sel) (i : ℕ) (s d : Sel) (all : List Numbered) → i < length list → s ≡ get_or list i d → done ++ numbered_from i (drop i list) ≡ all → (done ++ record { sel = s; number = i } ∷ []) ++ numbered_from (i + 1) (drop (i + 1) list) ≡ all
numbered-more done list i s d all l e h =
    let rest : drop i list ≡ s ∷ drop (i + 1) list = drop-cons list i d l ∙ ap (λ j. get_or list i d ∷ drop j list) (sym (add-one i)) ∙ ap (λ x. x ∷ drop (i + 1) list) (sym e) in
    append_assoc done (record { sel = s; number = i } ∷ []) (numbered_from (i + 1) (drop (i + 1) list)) ∙ ap (λ t. done ++ t) (sym (ap (numbered_from i) rest)) ∙ h

pub numbered-end : (done : List Numbered) (list : List Sel) (i : ℕ) (all : List Numbered) → i ≡ length list → done ++ numbered_from i (drop i list) ≡ all → done ≡ all
numbered-end done list i all e h =
    sym (append-nil done) ∙ ap (λ t. done ++ numbered_from i t) (sym (ap (λ n. drop n list) e ∙ drop-length list)) ∙ h

pub mapped-more : {X Y : Type 0} (f : X → Y) (done : List Y) (list : List X) (i : ℕ) (s : Y) (d : X) (all : List Y) → i < length list → s ≡ f (get_or list i d) → done ++ map f (drop i list) ≡ all → (done ++ s ∷ []) ++ map f (drop (i + 1) list) ≡ all
mapped-more f done list i s d all l e h =
    let rest : drop i list ≡ get_or list i d ∷ drop (i + 1) list = drop-cons list i d l ∙ ap (λ j. get_or list i d ∷ drop j list) (sym (add-one i)) in
    append_assoc done (s ∷ []) (map f (drop (i + 1) list)) ∙ ap (λ t. done ++ t) (ap (λ x. x ∷ map f (drop (i + 1) list)) e ∙ sym (ap (map f) rest)) ∙ h

pub mapped-end : {X Y : Type 0} (f : X → Y) (done : List Y) (list : List X) (i : ℕ) (all : List Y) → i ≡ length list → done ++ map f (drop i list) ≡ all → done ≡ all
mapped-end f done list i all e h =
    sym (append-nil done) ∙ ap (λ t. done ++ map f t) (sym (ap (λ n. drop n list) e ∙ drop-length list)) ∙ h
