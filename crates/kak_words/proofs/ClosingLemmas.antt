-- What stands before a closing mark, one character on.
use Rattle.std.proofs.Common.{◌≡◌, ℕ, ◌<◌, ◌+◌, List, [], ◌∷◌, ◌++◌, length, take, drop, map, get_or, encode_utf8, encode_utf8_all, true, false, cond, Option, Some, None, refl, ap, sym, ◌∙◌, append_assoc, append-nil}
use Rattle.std.proofs.lemmas.List.{drop_more, map_more}
use Rattle.std.proofs.lemmas.Str.{encodes-append}
use Rattle.std.proofs.lemmas.Bool.{eq-eqb, ne_eqb}
use Rattle.kak_words.specs.declared.placed.Placed.{Placed}
use Rattle.kak_words.specs.Closing.{SplitAtMark, after_one, after_one_if, text_of, up_to}

-- what was read before a split
abbrev pub before_split : List Placed → SplitAtMark → SplitAtMark
before_split xs s = record { inside = xs ++ s.inside; rest = s.rest }

-- the same where there may be none
abbrev pub before_all : List Placed → Option SplitAtMark → Option SplitAtMark
before_all xs None = None
before_all xs (Some s) = Some (before_split xs s)

pub before_split-push : (xs : List Placed) (p : Placed) (s : SplitAtMark) → before_split (xs ++ p ∷ []) s ≡ before_split xs (after_one p s)
before_split-push xs p s = let same : (xs ++ p ∷ []) ++ s.inside ≡ xs ++ (p ∷ s.inside) = append_assoc xs (p ∷ []) s.inside in ap (λ (ys : List Placed). let t : SplitAtMark = record { inside = ys; rest = s.rest } in t) same

pub before_all-push : (xs : List Placed) (p : Placed) (o : Option SplitAtMark) → before_all (xs ++ p ∷ []) o ≡ before_all xs (after_one_if p o)
before_all-push xs p None = refl
before_all-push xs p (Some s) = ap Some (before_split-push xs p s)

-- a character before a split whose mark isn't there yet
pub up_to-other : (mark : ℕ) (text : List Placed) (i : ℕ) (d : Placed) (xs ys : List Placed) (all : Option SplitAtMark) → i < length text → ((get_or text i d).c ≡ mark → ⊥) → ys ≡ xs ++ get_or text i d ∷ [] → before_all xs (up_to mark false (drop i text)) ≡ all → before_all ys (up_to mark false (drop (i + 1) text)) ≡ all
up_to-other mark text i d xs ys all inside other pushed h =
    let step = ap (up_to mark false) (drop_more text i d inside) ∙ ap (λ b. cond b (up_to mark true (drop (i + 1) text)) (after_one_if (get_or text i d) (up_to mark false (drop (i + 1) text)))) (ne_eqb (get_or text i d).c mark other) in
    ap (λ zs. before_all zs (up_to mark false (drop (i + 1) text))) pushed
    ∙ before_all-push xs (get_or text i d) (up_to mark false (drop (i + 1) text))
    ∙ ap (before_all xs) (sym step) ∙ h

-- a doubled mark
pub up_to-doubled : (mark : ℕ) (text : List Placed) (i : ℕ) (d : Placed) (xs ys : List Placed) (all : Option SplitAtMark) → i < length text → (get_or text i d).c ≡ mark → ys ≡ xs ++ get_or text i d ∷ [] → before_all xs (up_to mark true (drop i text)) ≡ all → before_all ys (up_to mark false (drop (i + 1) text)) ≡ all
up_to-doubled mark text i d xs ys all inside same pushed h =
    let closed : Option SplitAtMark = Some (record { inside = []; rest = get_or text i d ∷ drop (i + 1) text }) in
    let step = ap (up_to mark true) (drop_more text i d inside) ∙ ap (λ b. cond b (after_one_if (get_or text i d) (up_to mark false (drop (i + 1) text))) closed) (eq-eqb (get_or text i d).c mark same) in
    ap (λ zs. before_all zs (up_to mark false (drop (i + 1) text))) pushed
    ∙ before_all-push xs (get_or text i d) (up_to mark false (drop (i + 1) text))
    ∙ ap (before_all xs) (sym step) ∙ h

-- a mark that isn't doubled
pub up_to-closed : (mark : ℕ) (text : List Placed) (i : ℕ) (d : Placed) (xs rest : List Placed) (all : Option SplitAtMark) → i < length text → ((get_or text i d).c ≡ mark → ⊥) → rest ≡ drop i text → before_all xs (up_to mark true (drop i text)) ≡ all → all ≡ Some (record { inside = xs; rest = rest })
up_to-closed mark text i d xs rest all inside other behind h =
    let closed : Option SplitAtMark = Some (record { inside = []; rest = get_or text i d ∷ drop (i + 1) text }) in
    let step = ap (up_to mark true) (drop_more text i d inside) ∙ ap (λ b. cond b (after_one_if (get_or text i d) (up_to mark false (drop (i + 1) text))) closed) (ne_eqb (get_or text i d).c mark other) in
    let found : List Placed → List Placed → Option SplitAtMark = λ ys zs. Some (record { inside = ys; rest = zs }) in
    sym h ∙ ap (before_all xs) step ∙ ap (λ ys. found ys (get_or text i d ∷ drop (i + 1) text)) (append-nil xs)
    ∙ ap (found xs) (sym (drop_more text i d inside) ∙ sym behind)

-- the text of one more character
pub text_of-more : (list : List Placed) (i : ℕ) (d : Placed) → i < length list → text_of (take (i + 1) list) ≡ text_of (take i list) ++ encode_utf8 (get_or list i d).c
text_of-more list i d inside =
    ap encode_utf8_all (map_more (λ (p : Placed). p.c) list i d inside)
    ∙ encodes-append (map (λ (p : Placed). p.c) (take i list)) ((get_or list i d).c ∷ [])
    ∙ ap (λ bs. text_of (take i list) ++ bs) (append-nil (encode_utf8 (get_or list i d).c))
