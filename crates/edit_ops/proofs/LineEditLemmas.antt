-- Replacements that are made one for each of some lines, which rise.
use Rattle.std.proofs.Common.{◌≡◌, ℕ, ◌+◌, ◌-◌, ◌<◌, ◌≤◌, Bool, cond, List, [], ◌∷◌, ◌++◌, length, take, map, get_or, sym, ap, ap₂, subst, ◌∙◌, arith, take_all, inl}
use Rattle.std.specs.List.{AllByRecursion, filter}
use Rattle.std.proofs.lemmas.List.{map-append, take_more}
use Rattle.std.proofs.lemmas.List.Elements.{filter-append}
use Rattle.text_model.specs.Texts.{IsText, lines_of, line_count, nth_line, offset}
use Rattle.text_model.proofs.PlaceLemmas.{nth_line_is_line, offset-below, place-before_next, start-le, offset-next_line}
use Rattle.line_buffer.proofs.StepLemmas.{offset_on_line}
use Rattle.undo_model.specs.Edits.{Splice, AreInOrder}
use Rattle.buffer_store.specs.declared.edits.Splice.{Splice as CodeSplice}
use Rattle.buffer_store.specs.Buffers.{flat_splice, flat_splices, IsSpliceOf, AreSplicesOf}
use Rattle.edit_ops.specs.declared.kinds.Indent.{Indent}
use Rattle.edit_ops.specs.declared.kinds.Indent.TheVariants.{More, Less}
use Rattle.list_model.specs.Ranges.{Range}
use Rattle.edit_ops.specs.declared.spans.LineReach.{LineReach}
use Rattle.edit_ops.specs.Spans.{line_start, reachable, lines_reached}
use Rattle.edit_ops.specs.Blanks.{blanks, blanks_within}
use Rattle.edit_ops.specs.Joining.{join_at}
use Rattle.edit_ops.specs.Indenting.{indent_at, most_columns}
use Rattle.edit_ops.proofs.SpanLemmas.{IsRising, rising-kept, reached-rise}
use Rattle.edit_ops.proofs.BlankLemmas.{blanks-in_line, within-in_line}

-- replacements for lines below a count are ordered, end in a text of so many characters, and are in order
pub record KeepsLines (last count : ℕ) (f : ℕ → Splice) : Type 0 where
  pub ordered : (n : ℕ) → n < count → (f n).from ≤ (f n).to
  pub ends : (n : ℕ) → n < count → (f n).to ≤ last
  pub apart : (m n : ℕ) → m < n → n < count → (f m).to ≤ (f n).from

lines-behind : (last count : ℕ) (f : ℕ → Splice) (m : ℕ) (ns : List ℕ) → KeepsLines last count f → m < count → IsRising (m + 1) count ns → AreInOrder (f m).to last (map f ns)
lines-behind last count f m [] k h r = k.ends m h
lines-behind last count f m (n ∷ ns) k h r = (k.apart m n (omega (arith, r.0)) r.1, k.ordered n r.1, lines-behind last count f n ns k r.1 r.2)

lines-in_order : (last count : ℕ) (f : ℕ → Splice) (ns : List ℕ) → KeepsLines last count f → IsRising 0 count ns → AreInOrder 0 last (map f ns)
lines-in_order last count f [] k r = omega arith
lines-in_order last count f (n ∷ ns) k r = (omega arith, k.ordered n r.1, lines-behind last count f n ns k r.1 r.2)

-- so they are replacements of the text
pub line-splices : (text : List ℕ) (count : ℕ) (f : ℕ → Splice) (ns : List ℕ) (ss : List CodeSplice) → KeepsLines (length text) count f → IsRising 0 count ns
    → flat_splices text ss ≡ map f ns → AllByRecursion (IsSpliceOf text) ss → AreSplicesOf text ss
line-splices text count f ns ss k r e ends = record { ends = ends; in_order = subst (AreInOrder 0 (length text)) (sym e) (lines-in_order (length text) count f ns k r) }

-- those for lines that the ranges of a list reach, and for those of them that a test keeps
pub reached-splices : (text : List ℕ) (reach : LineReach) (rs : List Range) (f : ℕ → Splice) (ns : List ℕ) (i : ℕ) (ss : List CodeSplice) → KeepsLines (length text) (reachable text reach) f
    → ns ≡ lines_reached text reach rs → length ns ≤ i → flat_splices text ss ≡ map f (take i ns) → AllByRecursion (IsSpliceOf text) ss → AreSplicesOf text ss
reached-splices text reach rs f ns i ss k e h so ends =
    line-splices text (reachable text reach) f (lines_reached text reach rs) ss k (reached-rise text reach rs) (so ∙ ap (map f) (take_all i ns h ∙ e)) ends

pub kept-splices : (text : List ℕ) (reach : LineReach) (rs : List Range) (p : ℕ → Bool) (f : ℕ → Splice) (ns : List ℕ) (i : ℕ) (ss : List CodeSplice) → KeepsLines (length text) (reachable text reach) f
    → ns ≡ lines_reached text reach rs → length ns ≤ i → flat_splices text ss ≡ map f (filter p (take i ns)) → AllByRecursion (IsSpliceOf text) ss → AreSplicesOf text ss
kept-splices text reach rs p f ns i ss k e h so ends =
    line-splices text (reachable text reach) f (filter p (lines_reached text reach rs)) ss k (rising-kept p 0 (reachable text reach) (lines_reached text reach rs) (reached-rise text reach rs))
    (so ∙ ap (λ xs. map f (filter p xs)) (take_all i ns h ∙ e)) ends

-- one replacement more, by offsets
pub splice-more : (text : List ℕ) (f : ℕ → Splice) (ns : List ℕ) (ss : List CodeSplice) (s : CodeSplice) (n : ℕ) → flat_splices text ss ≡ map f ns → flat_splice text s ≡ f n → flat_splices text (ss ++ s ∷ []) ≡ map f (ns ++ n ∷ [])
splice-more text f ns ss s n e one = map-append (flat_splice text) ss (s ∷ []) ∙ ap₂ (λ xs (x : Splice). xs ++ x ∷ []) e one ∙ sym (map-append f ns (n ∷ []))

-- one line more, among the first ones and among those that a test keeps
pub first-more : (ns : List ℕ) (i n : ℕ) → i < length ns → n ≡ get_or ns i 0 → take i ns ++ n ∷ [] ≡ take (i + 1) ns
first-more ns i n h at = ap (λ k. take i ns ++ k ∷ []) at ∙ sym (take_more ns i 0 h)

pub kept-more : (p : ℕ → Bool) (ns : List ℕ) (i n : ℕ) (b : Bool) → i < length ns → n ≡ get_or ns i 0 → b ≡ p n → filter p (take i ns) ++ cond b (n ∷ []) [] ≡ filter p (take (i + 1) ns)
kept-more p ns i n b h at e =
    ap (λ (c : Bool). filter p (take i ns) ++ cond c (n ∷ []) []) e ∙ sym (filter-append p (take i ns) (n ∷ [])) ∙ ap (filter p) (first-more ns i n h at)

-- ---- what is made at each line

-- a column of a line lies before the begin of a later one
before-later : (text : List ℕ) (m n column : ℕ) → m < n → n < line_count text → column < length (nth_line text m) → line_start text m + column < line_start text n
before-later text m n column h l c = omega (arith, place-before_next (lines_of text) m column (omega arith) c, start-le (lines_of text) (m + 1) n (omega arith))

-- and before the end
before-end : (text : List ℕ) (n column : ℕ) → n < line_count text → column < length (nth_line text n) → line_start text n + column < length text
before-end text n column h c = omega (arith, offset-below text (record { line = n; column = column }) (record { on_line = h; in_line = c }))

pub joins-keep : (text : List ℕ) → IsText text → KeepsLines (length text) (line_count text - 1) (join_at text)
joins-keep text t =
    let end : (n : ℕ) → n < line_count text → blanks (nth_line text n) < length (nth_line text n) = λ n h. blanks-in_line (nth_line text n) (nth_line_is_line text n t h) in
    record {
      ordered = λ n h. omega arith;
      ends = λ n h. omega (arith, before-end text (n + 1) (blanks (nth_line text (n + 1))) (omega (arith, h)) (end (n + 1) (omega (arith, h))));
      apart = λ m n l h. omega (arith, before-later text (m + 1) (n + 1) (blanks (nth_line text (m + 1))) (omega (arith, l)) (omega (arith, h)) (end (m + 1) (omega (arith, l, h))));
    }

pub indents-keep : (text : List ℕ) (how : Indent) (width tabstop : ℕ) → IsText text → KeepsLines (length text) (line_count text) (indent_at text how width tabstop)
indents-keep text More width tabstop t =
    let some : (n : ℕ) → n < line_count text → 0 < length (nth_line text n) = λ n h. (nth_line_is_line text n t h).some in
    record {
      ordered = λ n h. omega arith;
      ends = λ n h. omega (arith, before-end text n 0 h (some n h));
      apart = λ m n l h. omega (arith, before-later text m n 0 l h (some m (omega (arith, l, h))));
    }
indents-keep text Less width tabstop t =
    let gone : ℕ → ℕ = λ n. blanks_within tabstop (most_columns width tabstop) 0 (nth_line text n) in
    let end : (n : ℕ) → n < line_count text → gone n < length (nth_line text n) = λ n h. within-in_line tabstop (most_columns width tabstop) 0 (nth_line text n) (nth_line_is_line text n t h) in
    record {
      ordered = λ n h. omega arith;
      ends = λ n h. omega (arith, before-end text n (gone n) h (end n h));
      apart = λ m n l h. omega (arith, before-later text m n (gone m) l h (end m (omega (arith, l, h))));
    }

-- ---- the same by coordinates

-- a replacement by its parts
splice-is : (a b : ℕ) (xs : List ℕ) (s : Splice) → a ≡ s.from → b ≡ s.to → xs ≡ s.put → record { from = a; «to» = b; put = xs } ≡ s
splice-is a b xs s e f g =
    ap (λ (x : ℕ). let t : Splice = record { from = x; «to» = b; put = xs } in t) e ∙ ap (λ (x : ℕ). let t : Splice = record { from = s.from; «to» = x; put = xs } in t) f
    ∙ ap (λ (x : List ℕ). let t : Splice = record { from = s.from; «to» = s.to; put = x } in t) g

pub join-flat : (text : List ℕ) (n next newline behind : ℕ) (chars : List ℕ) → n < line_count text → next ≡ n + 1 → newline + 1 ≡ length (nth_line text n) → behind ≡ blanks (nth_line text next) → chars ≡ 32 ∷ []
    → flat_splice text (record { from = record { line = n; column = newline }; «to» = record { line = next; column = behind }; text = chars }) ≡ join_at text n
join-flat text n next newline behind chars h e f b c =
    let from : offset text (record { line = n; column = newline }) ≡ line_start text (n + 1) - 1 = omega (arith, offset-next_line text n newline h f) in
    let stop : offset text (record { line = next; column = behind }) ≡ line_start text (n + 1) + blanks (nth_line text (n + 1)) =
    ap₂ (λ (k x : ℕ). offset text (record { line = k; column = x })) e (b ∙ ap (λ k. blanks (nth_line text k)) e) ∙ offset_on_line text (n + 1) (blanks (nth_line text (n + 1))) in
    splice-is (offset text (record { line = n; column = newline })) (offset text (record { line = next; column = behind })) chars (join_at text n) from stop c

pub join-ends : (text : List ℕ) (n next newline behind : ℕ) (chars : List ℕ) → n < line_count text → next < line_count text → newline < length (nth_line text n) → behind < length (nth_line text next)
    → IsSpliceOf text (record { from = record { line = n; column = newline }; «to» = record { line = next; column = behind }; text = chars })
join-ends text n next newline behind chars h k l b = record { from = inl (record { on_line = h; in_line = l }); «to» = inl (record { on_line = k; in_line = b }) }
