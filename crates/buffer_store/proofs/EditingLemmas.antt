-- Lemmas on how far an edit has got, whose replacements are made from the first to the last.
use Rattle.std.proofs.Common.{◌≡◌, ℕ, zero, suc, ◌+◌, ◌-◌, ◌<◌, ◌≤◌, Bool, true, false, ltb, ◌||◌, List, [], ◌∷◌, ◌++◌, length, drop, get_or, refl, sym, ap, ap₂, subst, ◌∙◌, arith, ltb-false, append-nil, append_assoc}
use Rattle.std.specs.List.{AllByRecursion}
use Rattle.std.proofs.lemmas.List.{drop_all, drop_more, drop-drop}
use Rattle.text_model.specs.declared.TheConstants.{MAX_CHARS}
use Rattle.text_model.specs.declared.coords.Coord.{Coord}
use Rattle.text_model.specs.declared.coords.Shift.{Shift}
use Rattle.text_model.specs.Coords.{is_at_most}
use Rattle.text_model.specs.Texts.{IsStored, IsPlaceOrEnd, offset, coord_at}
use Rattle.text_model.specs.Changes.{Change, all_changed, replacement}
use Rattle.text_model.proofs.PlaceLemmas.{offset-le, offset-coord_at, coord_at-offset_or_end, IsPlaceOrEnd-coord_at, leb_true}
use Rattle.selection_map.specs.Carrying.{IsSmall}
use Rattle.selection_map.specs.Rebasing.{rebased}
use Rattle.selection_map.specs.Premises.{IsTied}
use Rattle.selection_map.proofs.CarryLemmas.{order-coords}
use Rattle.selection_map.proofs.SmallLemmas.{coord_at-small}
use Rattle.selection_map.proofs.TieLemmas.{rebased-at, tied-lengths}
use Rattle.undo_model.specs.Stories.{Story, edited, is_undo_full}
use Rattle.undo_model.specs.Edits.{Splice, AreInOrder, splice_changes, edit_changes, is_too_long}
use Rattle.buffer_store.specs.declared.edits.Splice.{Splice as CodeSplice}
use Rattle.buffer_store.specs.Buffers.{IsSpliceOf, AreSplicesOf, flat_splice, flat_splices, changes_of}
use Rattle.buffer_store.specs.Histories.{IsWholly, IsPartly, IsBehind}
use Rattle.buffer_store.proofs.PartLemmas.{edited-text, undo_full-front, undo_full-behind, wholly-none, wholly-then, wholly-then_partly, partly-more}

-- the first replacements of an edit were made: what is left of it completes it, and the text behind the last of them is the old one
pub record IsEditing (who : ℕ) (old : Story) (ss : List CodeSplice) (i : ℕ) (now : Story) (from onto : Coord) (told : List Shift) : Type 0 where
  pub f : ℕ
  pub t : ℕ
  pub done : List Change
  pub from_is : from ≡ coord_at old.text f
  pub onto_is : onto ≡ coord_at now.text t
  pub tied : IsTied old.text now.text f t
  pub stored : IsStored now.text
  pub wholly : IsWholly who done old now [] told
  pub whole : changes_of old.text ss ≡ done ++ edit_changes (length old.text) now.text (flat_splices old.text (drop i ss))
  pub later : AreInOrder f (length old.text) (flat_splices old.text (drop i ss))
  pub short : is_too_long (length old.text) now.text (flat_splices old.text (drop i ss)) ≡ false
  pub room : is_undo_full who (edit_changes (length old.text) now.text (flat_splices old.text (drop i ss))) now ≡ false

pub editing-first : (who : ℕ) (old : Story) (ss : List CodeSplice) (told : List Shift) → IsStored old.text → AreSplicesOf old.text ss → is_too_long (length old.text) old.text (flat_splices old.text ss) ≡ false → is_undo_full who (changes_of old.text ss) old ≡ false → told ≡ []
    → IsEditing who old ss 0 old (record { line = 0; column = 0 }) (record { line = 0; column = 0 }) told
editing-first who old ss told h a short room e = record {
  f = 0;
  t = 0;
  done = [];
  from_is = refl;
  onto_is = refl;
  tied = record { from_in = omega arith; onto_in = omega arith; same = refl };
  stored = h;
  wholly = wholly-none who old old [] told refl e;
  whole = refl;
  later = a.in_order;
  short = short;
  room = room;
}

-- the next replacement: where it goes, and that there is room for it
pub record IsNext (who : ℕ) (old : Story) (ss : List CodeSplice) (i : ℕ) (now : Story) (from onto : Coord) (told : List Shift) (s : CodeSplice) (begin behind : Coord) (put : List ℕ) : Type 0 where
  pub editing : IsEditing who old ss i now from onto told
  pub from_order : is_at_most from s.from ≡ true
  pub to_order : is_at_most from s.to ≡ true
  pub from_small : IsSmall s.from
  pub to_small : IsSmall s.to
  pub onto_small : IsSmall onto
  pub begin_place : IsPlaceOrEnd now.text begin
  pub behind_place : IsPlaceOrEnd now.text behind
  pub ordered : offset now.text begin ≤ offset now.text behind
  pub place : IsPlaceOrEnd old.text s.to
  pub last : offset old.text s.to ≤ length old.text
  pub before : editing.f ≤ offset old.text s.to
  pub behind_at : offset now.text behind ≡ editing.t + (offset old.text s.to - editing.f)
  pub same : splice_changes (length old.text) now.text (flat_splice old.text s) ≡ replacement now.text (offset now.text begin) (offset now.text behind) put
  pub rest : flat_splices old.text (drop i ss) ≡ flat_splice old.text s ∷ flat_splices old.text (drop (i + 1) ss)
  pub later : AreInOrder (offset old.text s.to) (length old.text) (flat_splices old.text (drop (i + 1) ss))
  pub short : length (all_changed now.text (splice_changes (length old.text) now.text (flat_splice old.text s))) ≤ MAX_CHARS
  pub shorter : is_too_long (length old.text) (all_changed now.text (splice_changes (length old.text) now.text (flat_splice old.text s))) (flat_splices old.text (drop (i + 1) ss)) ≡ false
  pub room : is_undo_full who (splice_changes (length old.text) now.text (flat_splice old.text s)) now ≡ false

or-false : (a b : Bool) → a || b ≡ false → (a ≡ false) × (b ≡ false)
or-false true b h = cc
or-false false b h = (refl, h)

-- the ends of a replacement are places
pub ends-at : (text : List ℕ) (ss : List CodeSplice) (i : ℕ) (s : CodeSplice) → i < length ss → s ≡ get_or ss i s → AllByRecursion (IsSpliceOf text) ss → IsSpliceOf text s
ends-at text [] i s lt e a = absurd (omega arith)
ends-at text (x ∷ xs) zero s lt e a = subst (IsSpliceOf text) (sym e) a.0
ends-at text (x ∷ xs) (suc i) s lt e a = ends-at text xs i s (omega arith) e a.1

in-order-le : (f n : ℕ) (ss : List Splice) → AreInOrder f n ss → f ≤ n
in-order-le f n [] a = a
in-order-le f n (s ∷ ss) a = omega (arith, a.0, a.1, in-order-le s.to n ss a.2)

pub next-rebased : (who : ℕ) (old : Story) (ss : List CodeSplice) (i : ℕ) (now : Story) (from onto : Coord) (told : List Shift) (s : CodeSplice) → IsStored old.text → AreSplicesOf old.text ss → i < length ss → s ≡ get_or ss i s → IsEditing who old ss i now from onto told → IsNext who old ss i now from onto told s (rebased s.from from onto) (rebased s.to from onto) s.text
next-rebased who old ss i now from onto told s h a lt e k =
    let o : List ℕ = old.text in
    let x : List ℕ = now.text in
    let n : ℕ = length o in
    let p : ℕ = offset o s.from in
    let q : ℕ = offset o s.to in
    let ends : IsSpliceOf o s = ends-at o ss i s lt e a.ends in
    let cut : drop i ss ≡ s ∷ drop (i + 1) ss = drop_more ss i s lt ∙ ap (λ y. y ∷ drop (i + 1) ss) (sym e) in
    let rest : flat_splices o (drop i ss) ≡ flat_splice o s ∷ flat_splices o (drop (i + 1) ss) = ap (flat_splices o) cut in
    let order : AreInOrder k.f n (flat_splice o s ∷ flat_splices o (drop (i + 1) ss)) = subst (AreInOrder k.f n) rest k.later in
    let low : k.f ≤ p = order.0 in
    let high : p ≤ q = order.1 in
    let last : q ≤ n = offset-le o s.to ends.to in
    let grown : n + k.t ≡ length x + k.f = tied-lengths o x k.f k.t k.tied in
    let from-is : s.from ≡ coord_at o p = sym (coord_at-offset_or_end o s.from h.is_text ends.from) in
    let to-is : s.to ≡ coord_at o q = sym (coord_at-offset_or_end o s.to h.is_text ends.to) in
    let begin-at : rebased s.from from onto ≡ coord_at x (k.t + (p - k.f)) = rebased-at o x k.f k.t p (k.t + (p - k.f)) s.from from onto k.tied from-is k.from_is k.onto_is low refl in
    let behind-at : rebased s.to from onto ≡ coord_at x (k.t + (q - k.f)) = rebased-at o x k.f k.t q (k.t + (q - k.f)) s.to from onto k.tied to-is k.from_is k.onto_is (omega arith) refl in
    let begin-in : k.t + (p - k.f) ≤ length x = omega arith in
    let behind-in : k.t + (q - k.f) ≤ length x = omega arith in
    let begin-off : offset x (rebased s.from from onto) ≡ k.t + (p - k.f) = ap (offset x) begin-at ∙ offset-coord_at x (k.t + (p - k.f)) begin-in in
    let behind-off : offset x (rebased s.to from onto) ≡ k.t + (q - k.f) = ap (offset x) behind-at ∙ offset-coord_at x (k.t + (q - k.f)) behind-in in
    let moved-from : p + length x - n ≡ offset x (rebased s.from from onto) = omega arith in
    let moved-to : q + length x - n ≡ offset x (rebased s.to from onto) = omega arith in
    let T : List Splice → Type 0 = λ ys. is_too_long n x ys ≡ false in
    let tests : (ltb MAX_CHARS (length (all_changed x (splice_changes n x (flat_splice o s)))) ≡ false) × (is_too_long n (all_changed x (splice_changes n x (flat_splice o s))) (flat_splices o (drop (i + 1) ss)) ≡ false) =
    or-false (ltb MAX_CHARS (length (all_changed x (splice_changes n x (flat_splice o s))))) (is_too_long n (all_changed x (splice_changes n x (flat_splice o s))) (flat_splices o (drop (i + 1) ss))) (subst T rest k.short) in
    let F : List Splice → Type 0 = λ ys. is_undo_full who (edit_changes n x ys) now ≡ false in
    record {
      editing = k;
      from_order = ap₂ is_at_most k.from_is from-is ∙ order-coords o k.f p h.is_text k.tied.from_in (omega arith) ∙ leb_true k.f p low;
      to_order = ap₂ is_at_most k.from_is to-is ∙ order-coords o k.f q h.is_text k.tied.from_in last ∙ leb_true k.f q (omega arith);
      from_small = subst IsSmall (sym from-is) (coord_at-small o p h.small);
      to_small = subst IsSmall (sym to-is) (coord_at-small o q h.small);
      onto_small = subst IsSmall (sym k.onto_is) (coord_at-small x k.t k.stored.small);
      begin_place = subst (IsPlaceOrEnd x) (sym begin-at) (IsPlaceOrEnd-coord_at x (k.t + (p - k.f)) k.stored.is_text begin-in);
      behind_place = subst (IsPlaceOrEnd x) (sym behind-at) (IsPlaceOrEnd-coord_at x (k.t + (q - k.f)) k.stored.is_text behind-in);
      ordered = omega (arith, begin-off, behind-off);
      place = ends.to;
      last = last;
      before = omega arith;
      behind_at = behind-off;
      same = ap₂ (λ u v. replacement x u v s.text) moved-from moved-to;
      rest = rest;
      later = order.2;
      short = ltb-false MAX_CHARS (length (all_changed x (splice_changes n x (flat_splice o s)))) tests.0;
      shorter = tests.1;
      room = undo_full-front who (splice_changes n x (flat_splice o s)) (edit_changes n (all_changed x (splice_changes n x (flat_splice o s))) (flat_splices o (drop (i + 1) ss))) now (subst F rest k.room);
    }

pub editing-next : (who : ℕ) (old : Story) (ss : List CodeSplice) (i : ℕ) (now : Story) (from onto : Coord) (told : List Shift) (s : CodeSplice) (begin behind : Coord) (put : List ℕ) → IsStored old.text → AreSplicesOf old.text ss → i < length ss → s ≡ get_or ss i s → IsEditing who old ss i now from onto told
    → begin ≡ rebased s.from from onto → behind ≡ rebased s.to from onto → put ≡ s.text → IsNext who old ss i now from onto told s begin behind put
editing-next who old ss i now from onto told s begin behind put h a lt e k b c d =
    let N : Coord → Coord → List ℕ → Type 0 = IsNext who old ss i now from onto told s in
    subst (λ x. N x behind put) (sym b) (subst (λ y. N (rebased s.from from onto) y put) (sym c) (subst (λ z. N (rebased s.from from onto) (rebased s.to from onto) z) (sym d) (next-rebased who old ss i now from onto told s h a lt e k)))

-- what the next replacement wants
pub next-short : (who : ℕ) (old : Story) (ss : List CodeSplice) (i : ℕ) (now : Story) (from onto : Coord) (told : List Shift) (s : CodeSplice) (begin behind : Coord) (put : List ℕ) → IsNext who old ss i now from onto told s begin behind put → length (all_changed now.text (replacement now.text (offset now.text begin) (offset now.text behind) put)) ≤ MAX_CHARS
next-short who old ss i now from onto told s begin behind put k = let P : List Change → Type 0 = λ cs. length (all_changed now.text cs) ≤ MAX_CHARS in subst P k.same k.short

pub next-room : (who : ℕ) (old : Story) (ss : List CodeSplice) (i : ℕ) (now : Story) (from onto : Coord) (told : List Shift) (s : CodeSplice) (begin behind : Coord) (put : List ℕ) → IsNext who old ss i now from onto told s begin behind put → is_undo_full who (replacement now.text (offset now.text begin) (offset now.text behind) put) now ≡ false
next-room who old ss i now from onto told s begin behind put k = let P : List Change → Type 0 = λ cs. is_undo_full who cs now ≡ false in subst P k.same k.room

-- two texts tied at one place, and the second and a third at one behind it
pub tied-on : (a b c : List ℕ) (f t o u : ℕ) → IsTied a b f t → IsTied b c (t + (o - f)) u → f ≤ o → o ≤ length a → IsTied a c o u
tied-on a b c f t o u h k le inside =
    let far : f + (o - f) ≡ o = omega arith in
    record {
      from_in = inside;
      onto_in = k.onto_in;
      same = ap (λ n. drop n a) (sym far) ∙ sym (drop-drop (o - f) f a) ∙ ap (drop (o - f)) h.same ∙ drop-drop (o - f) t b ∙ k.same;
    }

-- and behind it the edit has got one further
pub editing-more : (who : ℕ) (old : Story) (ss : List CodeSplice) (i : ℕ) (now new : Story) (from onto b : Coord) (told after : List Shift) (s : CodeSplice) (begin behind : Coord) (put : List ℕ) → IsNext who old ss i now from onto told s begin behind put → IsStored old.text
    → IsWholly who (replacement now.text (offset now.text begin) (offset now.text behind) put) now new told after → IsBehind now.text new.text behind b → IsEditing who old ss (i + 1) new s.to b after
editing-more who old ss i now new from onto b told after s begin behind put k h w at =
    let o : List ℕ = old.text in
    let x : List ℕ = now.text in
    let n : ℕ = length o in
    let cs : List Change = splice_changes n x (flat_splice o s) in
    let ds : List Change = edit_changes n (all_changed x cs) (flat_splices o (drop (i + 1) ss)) in
    let W : List Change → Type 0 = λ ys. IsWholly who ys now new told after in
    let own : IsWholly who cs now new told after = subst W (sym k.same) w in
    let text : new.text ≡ all_changed x cs = ap (λ (y : Story). y.text) own.story ∙ edited-text who cs now in
    let tied : IsTied x new.text (k.editing.t + (offset o s.to - k.editing.f)) (offset new.text b) = subst (λ m. IsTied x new.text m (offset new.text b)) k.behind_at at.tied in
    let F : List Splice → Type 0 = λ ys. is_undo_full who (edit_changes n x ys) now ≡ false in
    let full : is_undo_full who ds (edited who cs now) ≡ false = undo_full-behind who cs ds now (subst F k.rest k.editing.room) in
    record {
      f = offset o s.to;
      t = offset new.text b;
      done = k.editing.done ++ cs;
      from_is = sym (coord_at-offset_or_end o s.to h.is_text k.place);
      onto_is = sym (coord_at-offset_or_end new.text b at.stored.is_text at.place);
      tied = tied-on o x new.text k.editing.f k.editing.t (offset o s.to) (offset new.text b) k.editing.tied tied k.before k.last;
      stored = at.stored;
      wholly = wholly-then who k.editing.done cs old now new [] told after k.editing.wholly own;
      whole = k.editing.whole ∙ ap (λ ys. k.editing.done ++ edit_changes n x ys) k.rest ∙ sym (append_assoc k.editing.done cs ds) ∙ ap (λ y. (k.editing.done ++ cs) ++ edit_changes n y (flat_splices o (drop (i + 1) ss))) (sym text);
      later = k.later;
      short = ap (λ y. is_too_long n y (flat_splices o (drop (i + 1) ss))) text ∙ k.shorter;
      room = ap₂ (λ y z. is_undo_full who (edit_changes n y (flat_splices o (drop (i + 1) ss))) z) text own.story ∙ full;
    }

-- where a replacement fails, some changes of the edit were made
pub editing-failed : (who : ℕ) (old : Story) (ss : List CodeSplice) (i : ℕ) (now new : Story) (from onto : Coord) (told after : List Shift) (s : CodeSplice) (begin behind : Coord) (put : List ℕ) → IsNext who old ss i now from onto told s begin behind put
    → IsPartly who (replacement now.text (offset now.text begin) (offset now.text behind) put) now new told after → IsPartly who (changes_of old.text ss) old new [] after
editing-failed who old ss i now new from onto told after s begin behind put k w =
    let n : ℕ = length old.text in
    let cs : List Change = splice_changes n now.text (flat_splice old.text s) in
    let ds : List Change = edit_changes n (all_changed now.text cs) (flat_splices old.text (drop (i + 1) ss)) in
    let W : List Change → Type 0 = λ ys. IsPartly who ys now new told after in
    let V : List Change → Type 0 = λ ys. IsPartly who ys old new [] after in
    let all : changes_of old.text ss ≡ k.editing.done ++ (cs ++ ds) = k.editing.whole ∙ ap (λ ys. k.editing.done ++ edit_changes n now.text ys) k.rest in
    subst V (sym all) (wholly-then_partly who k.editing.done (cs ++ ds) old now new [] told after k.editing.wholly (partly-more who cs ds now new told after (subst W (sym k.same) w)))

-- at the end all were
pub editing-all : (who : ℕ) (old : Story) (ss : List CodeSplice) (i : ℕ) (now : Story) (from onto : Coord) (told : List Shift) → length ss ≤ i → IsEditing who old ss i now from onto told → IsWholly who (changes_of old.text ss) old now [] told
editing-all who old ss i now from onto told le k =
    let W : List Change → Type 0 = λ ys. IsWholly who ys old now [] told in
    let all : changes_of old.text ss ≡ k.done = k.whole ∙ ap (λ ys. k.done ++ edit_changes (length old.text) now.text (flat_splices old.text ys)) (drop_all i ss le) ∙ append-nil k.done in
    subst W (sym all) k.wholly
