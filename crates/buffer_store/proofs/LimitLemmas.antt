-- Lemmas on the length of a text behind replacements, and on whether they change it.
use Rattle.std.proofs.Common.{◌≡◌, ℕ, ◌+◌, ◌-◌, ◌<◌, ◌≤◌, Bool, true, false, not, cond, eqb, ltb, leb, ◌&&◌, ◌||◌, List, [], ◌∷◌, ◌++◌, length, take, drop, get_or, refl, sym, ap, ap₂, subst, ◌∙◌, arith, inl, inr, ◌⊎◌, length-append, length-take-le, length-drop, lt-ltb, le-ltb, ltb-true, ltb-false, ne_eqb, eq-eqb}
use Rattle.std.proofs.lemmas.Bool.{lt-leb}
use Rattle.std.proofs.lemmas.List.{drop_all, drop_more, nil_from_length}
use Rattle.text_model.specs.declared.coords.Coord.{Coord}
use Rattle.text_model.specs.Texts.{IsText, offset, ends_in_newline}
use Rattle.text_model.specs.Changes.{Change, Erasure, ended, begins_line, all_changed, put_in, inserted, taken_end, erased, insertion_of, erasure, front, exchange, replacement}
use Rattle.text_model.proofs.CoordLemmas.{test_cases}
use Rattle.text_model.proofs.PlaceLemmas.{three_ways, leb_true}
use Rattle.text_model.proofs.ChangeLemmas.{IsText-ended, ended-text, ended-other, begins_line-end, taken_end_cases, taken_end-inside, exchange-changes, put_in-inside, put_in-end, length-inserted, replacement-plain, replacement-inside, replacement-to_end}
use Rattle.undo_model.specs.Edits.{AreInOrder, splice_changes, edit_changes}
use Rattle.buffer_store.specs.declared.edits.Splice.{Splice as CodeSplice}
use Rattle.buffer_store.specs.Buffers.{IsSpliceOf, AreSplicesOf, flat_splice, flat_splices, changes_of}
use Rattle.buffer_store.proofs.EditingLemmas.{ends-at}
use Rattle.undo_model.specs.declared.TheConstants.{MAX_NODES}
use Rattle.undo_model.specs.Stories.{Story, is_own, nodes_due, is_undo_full}
use Rattle.buffer_store.proofs.ReplacingLemmas.{IsEndKept}
use Rattle.buffer_store.specs.Limits.{added}

-- numbers that aren't equal
pub different : (m n : ℕ) → (m ≡ n → ⊥) → (m < n) ⊎ (n < m)
different m n h = elim (three_ways m n) [ inl lt ↦ inl lt | inr w ↦ elim w [ inl e ↦ absurd (h e) | inr gt ↦ inr gt ] ]

-- two tests of numbers
pub lt-not_le : (m n : ℕ) → ltb m n ≡ not (leb n m)
lt-not_le m n = elim (ways m n) [ inl lt ↦ lt-ltb m n lt ∙ ap not (sym (lt-leb n m lt)) | inr le ↦ le-ltb m n le ∙ ap not (sym (leb_true n m le)) ]
  where
    ways : (m n : ℕ) → (m < n) ⊎ (n ≤ m)
    ways m n = grind arith

-- whether an exchange changes the text
pub exchange-some : (text : List ℕ) (p q : ℕ) (s : List ℕ) → ltb 0 (length (exchange text p q s)) ≡ ltb 0 (length s) || ltb p (taken_end text p q)
exchange-some text p q [] =
    let e : ℕ = taken_end text p q in
    let P : Bool → Type 0 = λ v. ltb 0 (length (cond v (Erasure p e ∷ []) [] ++ [])) ≡ v in
    elim (test_cases (ltb p e)) [
      | inl t ↦ ap (λ v. ltb 0 (length (cond v (Erasure p e ∷ []) [] ++ []))) t ∙ refl ∙ sym t
      | inr t ↦ ap (λ v. ltb 0 (length (cond v (Erasure p e ∷ []) [] ++ []))) t ∙ refl ∙ sym t
    ]
exchange-some text p q (c ∷ cs) =
    let r : List ℕ = put_in (erased text p q) p (c ∷ cs) in
    let some : 0 < length r = put-some (eqb p (length (erased text p q))) in
    let one : 0 < length (exchange text p q (c ∷ cs)) = omega (arith, length-append (erasure text p q) (insertion_of p r), inserts r some) in
    let put : ltb 0 (length (c ∷ cs)) ≡ true = lt-ltb 0 (length (c ∷ cs)) (omega arith) in
    lt-ltb 0 (length (exchange text p q (c ∷ cs))) one ∙ ap (λ v. v || ltb p (taken_end text p q)) (sym put)
  where
    put-some : (v : Bool) → 0 < length (cond v (ended (c ∷ cs)) (c ∷ cs))
    put-some true = (IsText-ended (c ∷ cs)).some
    put-some false = omega arith

    inserts : (r : List ℕ) → 0 < length r → 0 < length (insertion_of p r)
    inserts [] h = absurd (omega arith)
    inserts (x ∷ xs) h = omega arith

-- what is put in at the end is no shorter
pub added-le : (s : List ℕ) (at_end begins : Bool) → length s ≤ added s at_end begins
added-le s false begins = omega arith
added-le [] true begins = omega arith
added-le (c ∷ cs) true begins =
    elim (test_cases (ends_in_newline (c ∷ cs))) [
      | inl e ↦ omega (arith, ap length (ended-text (c ∷ cs) e))
      | inr e ↦ omega (arith, ap length (ended-other (c ∷ cs) e), length-append (c ∷ cs) (10 ∷ []))
    ]

length-ended : (c : ℕ) (cs : List ℕ) → ends_in_newline (c ∷ cs) ≡ false → length (ended (c ∷ cs)) ≡ length (c ∷ cs) + 1
length-ended c cs e = ap length (ended-other (c ∷ cs) e) ∙ length-append (c ∷ cs) (10 ∷ [])

-- the length of a text whose end is exchanged
end-exchanged : (text : List ℕ) (p q : ℕ) (s : List ℕ) → IsText text → p ≤ q → q ≡ length text → (p < q → ends_in_newline s ≡ false) → length (all_changed text (exchange text p q s)) ≡ p + added s true (begins_line text p)
end-exchanged text p q s h k e other =
    elim (taken_end_cases text p q) [
      | inl w ↦ whole (w.1 e) w.0
      | inr w ↦ kept w.2 w.0
    ]
  where
    all : length (all_changed text (exchange text p q s)) ≡ length (inserted (erased text p q) p s)
    all = ap length (exchange-changes text p q s h k (omega arith))

    whole : begins_line text p ≡ true → taken_end text p q ≡ q → length (all_changed text (exchange text p q s)) ≡ p + added s true (begins_line text p)
    whole b t =
        let cut : length (erased text p q) ≡ p = omega (arith, ap (λ n. length (take p text ++ drop n text)) t, length-append (take p text) (drop q text), length-take-le p text (omega arith), length-drop q text) in
        all ∙ length-inserted (erased text p q) p s (omega arith) ∙ ap₂ (λ m n. m + n) cut (put s (sym cut)) ∙ ap (λ v. p + added s true v) (sym b)
      where
        put : (s : List ℕ) → p ≡ length (erased text p q) → length (put_in (erased text p q) p s) ≡ added s true true
        put [] at = refl
        put (c ∷ cs) at = ap length (put_in-end (erased text p q) p c cs at)

    kept : begins_line text p ≡ false → taken_end text p q ≡ q - 1 → length (all_changed text (exchange text p q s)) ≡ p + added s true (begins_line text p)
    kept b t =
        elim (ways p q) [
          | inl lt ↦ (let cut : length (erased text p q) ≡ p + 1 = omega (arith, ap (λ n. length (take p text ++ drop n text)) t, length-append (take p text) (drop (q - 1) text), length-take-le p text (omega arith), length-drop (q - 1) text) in
              let put : put_in (erased text p q) p s ≡ s = put_in-inside (erased text p q) p s (omega arith) in
              let long : length (inserted (erased text p q) p s) ≡ p + 1 + length s = omega (arith, length-inserted (erased text p q) p s (omega arith), ap length put) in
              omega (arith, all, long, more s (other lt), ap (λ v. added s true v) b))
          | inr le ↦ absurd (let same : p ≡ length text = omega arith in let both : true ≡ false = sym (ap (begins_line text) same ∙ begins_line-end text h) ∙ b in cc)
        ]
      where
        ways : (m n : ℕ) → (m < n) ⊎ (n ≤ m)
        ways m n = grind arith

        more : (s : List ℕ) → ends_in_newline s ≡ false → added s true false ≡ 1 + length s
        more [] e = refl
        more (c ∷ cs) e = omega (arith, length-ended c cs e)

-- the length of a text behind a replacement
pub length-replaced : (text : List ℕ) (p q : ℕ) (s : List ℕ) → IsText text → p ≤ q → q ≤ length text → length (all_changed text (replacement text p q s)) + (q - p) ≡ length text + added s (eqb q (length text)) (begins_line text p)
length-replaced text p q s h k l =
    elim (ways q (length text)) [
      | inl lt ↦ (let long : length (all_changed text (replacement text p q s)) ≡ p + (length s + (length text - q)) = omega (arith, ap length (replacement-inside text p q s h k lt), length-append (take p text) (s ++ drop q text), length-append s (drop q text), length-take-le p text (omega arith), length-drop q text) in
          omega (arith, long, ap (λ v. added s v (begins_line text p)) (ne_eqb q (length text) (λ e. omega arith))))
      | inr ge ↦ at_end (omega arith)
    ]
  where
    ways : (m n : ℕ) → (m < n) ⊎ (n ≤ m)
    ways m n = grind arith

    short : (s : List ℕ) → ends_in_newline s ≡ true → added s true (begins_line text p) ≡ length s
    short [] e = absurd (let no : eqb 0 10 ≡ true = e in cc)
    short (c ∷ cs) e = ap length (ended-text (c ∷ cs) e)

    at_end : q ≡ length text → length (all_changed text (replacement text p q s)) + (q - p) ≡ length text + added s (eqb q (length text)) (begins_line text p)
    at_end e =
        let test : added s (eqb q (length text)) (begins_line text p) ≡ added s true (begins_line text p) = ap (λ v. added s v (begins_line text p)) (eq-eqb q (length text) e) in
        elim (test_cases (ltb p q && ends_in_newline s)) [
          | inl t ↦ (let lt : p < q = ltb-true p q (first (ltb p q) (ends_in_newline s) t) in
              let ends : ends_in_newline s ≡ true = second (ltb p q) (ends_in_newline s) t in
              let long : length (all_changed text (replacement text p q s)) ≡ p + length s = ap (λ n. length (all_changed text (replacement text p n s))) e ∙ omega (arith, ap length (replacement-to_end text p s h (omega arith) ends), length-append (take p text) s, length-take-le p text (omega arith)) in
              omega (arith, long, test, short s ends))
          | inr t ↦ (let plain : replacement text p q s ≡ exchange text p q s = replacement-plain text p q s (ap (λ v. ltb p q && (v && ends_in_newline s)) (eq-eqb q (length text) e) ∙ t) in
              let long : length (all_changed text (replacement text p q s)) ≡ p + added s true (begins_line text p) = ap (λ cs. length (all_changed text cs)) plain ∙ end-exchanged text p q s h k e (λ lt. sym (ap (λ v. v && ends_in_newline s) (lt-ltb p q lt)) ∙ t) in
              omega (arith, long, test))
        ]
      where
        first : (a b : Bool) → a && b ≡ true → a ≡ true
        first true b h = refl
        first false b h = h

        second : (a b : Bool) → a && b ≡ true → b ≡ true
        second true b h = h
        second false b h = cc

-- whether a replacement changes the text, where its last newline stays
pub kept-more : (text : List ℕ) (from at last : Coord) (s : List ℕ) → IsEndKept text from last s → offset text at ≡ length text → 1 < length s → ltb 0 (length (replacement text (offset text from) (offset text at) s)) ≡ true
kept-more text from at last s k e more =
    let front-long : length (front s) ≡ length s - 1 = length-take-le (length s - 1) s (omega arith) in
    let put : ltb 0 (length (front s)) ≡ true = lt-ltb 0 (length (front s)) (omega arith) in
    ap (λ n. ltb 0 (length (replacement text (offset text from) n s))) e ∙ ap (λ cs. ltb 0 (length cs)) k.same ∙ exchange-some text (offset text from) (offset text last) (front s) ∙ ap (λ v. v || ltb (offset text from) (taken_end text (offset text from) (offset text last))) put

pub kept-one : (text : List ℕ) (from at last : Coord) (s : List ℕ) → IsText text → IsEndKept text from last s → offset text at ≡ length text → offset text last ≡ length text - 1 → length s ≤ 1 → ltb 0 (length (replacement text (offset text from) (offset text at) s)) ≡ not (leb (offset text last) (offset text from))
kept-one text from at last s h k e off one =
    let front-long : length (front s) ≡ length s - 1 = length-take-le (length s - 1) s (omega arith) in
    let put : ltb 0 (length (front s)) ≡ false = le-ltb 0 (length (front s)) (omega arith) in
    let inside : taken_end text (offset text from) (offset text last) ≡ offset text last = taken_end-inside text (offset text from) (offset text last) (omega (arith, off, h.some)) in
    ap (λ n. ltb 0 (length (replacement text (offset text from) n s))) e ∙ ap (λ cs. ltb 0 (length cs)) k.same ∙ exchange-some text (offset text from) (offset text last) (front s)
    ∙ ap₂ (λ v n. v || ltb (offset text from) n) put inside ∙ lt-not_le (offset text from) (offset text last)

-- and where it doesn't
pub plain-more : (text : List ℕ) (p q : ℕ) (s : List ℕ) → replacement text p q s ≡ exchange text p q s → 0 < length s → ltb 0 (length (replacement text p q s)) ≡ true
plain-more text p q s e more = ap (λ cs. ltb 0 (length cs)) e ∙ exchange-some text p q s ∙ ap (λ v. v || ltb p (taken_end text p q)) (lt-ltb 0 (length s) more)

pub plain-none : (text : List ℕ) (p q : ℕ) (s : List ℕ) → replacement text p q s ≡ exchange text p q s → length s ≡ 0 → ltb 0 (length (replacement text p q s)) ≡ not (leb (taken_end text p q) p)
plain-none text p q s e none = ap (λ cs. ltb 0 (length cs)) e ∙ exchange-some text p q s ∙ ap (λ v. v || ltb p (taken_end text p q)) (le-ltb 0 (length s) (omega arith)) ∙ lt-not_le p (taken_end text p q)

-- replacements so far change nothing: what is left of the edit is all of it
pub record IsUnchanged (text : List ℕ) (ss : List CodeSplice) (i : ℕ) : Type 0 where
  pub f : ℕ
  pub later : AreInOrder f (length text) (flat_splices text (drop i ss))
  pub same : changes_of text ss ≡ edit_changes (length text) text (flat_splices text (drop i ss))

pub unchanged-first : (text : List ℕ) (ss : List CodeSplice) → AreSplicesOf text ss → IsUnchanged text ss 0
unchanged-first text ss a = record { f = 0; later = a.in_order; same = refl }

-- the next replacement
pub record IsNextHere (text : List ℕ) (ss : List CodeSplice) (i : ℕ) (s : CodeSplice) : Type 0 where
  pub ends : IsSpliceOf text s
  pub ordered : offset text s.from ≤ offset text s.to
  pub later : AreInOrder (offset text s.to) (length text) (flat_splices text (drop (i + 1) ss))
  pub same : changes_of text ss ≡ replacement text (offset text s.from) (offset text s.to) s.text ++ edit_changes (length text) (all_changed text (replacement text (offset text s.from) (offset text s.to) s.text)) (flat_splices text (drop (i + 1) ss))

pub unchanged-next : (text : List ℕ) (ss : List CodeSplice) (i : ℕ) (s : CodeSplice) → AreSplicesOf text ss → i < length ss → s ≡ get_or ss i s → IsUnchanged text ss i → IsNextHere text ss i s
unchanged-next text ss i s a lt e k =
    let n : ℕ = length text in
    let cut : drop i ss ≡ s ∷ drop (i + 1) ss = drop_more ss i s lt ∙ ap (λ y. y ∷ drop (i + 1) ss) (sym e) in
    let rest : flat_splices text (drop i ss) ≡ flat_splice text s ∷ flat_splices text (drop (i + 1) ss) = ap (flat_splices text) cut in
    let order : AreInOrder k.f n (flat_splice text s ∷ flat_splices text (drop (i + 1) ss)) = subst (AreInOrder k.f n) rest k.later in
    let from-is : offset text s.from + n - n ≡ offset text s.from = omega arith in
    let to-is : offset text s.to + n - n ≡ offset text s.to = omega arith in
    let one : splice_changes n text (flat_splice text s) ≡ replacement text (offset text s.from) (offset text s.to) s.text = ap₂ (λ u v. replacement text u v s.text) from-is to-is in
    record {
      ends = ends-at text ss i s lt e a.ends;
      ordered = order.1;
      later = order.2;
      same = k.same ∙ ap (edit_changes n text) rest ∙ ap (λ cs. cs ++ edit_changes n (all_changed text cs) (flat_splices text (drop (i + 1) ss))) one;
    }

-- one that changes something
pub changed-next : (text : List ℕ) (ss : List CodeSplice) (i : ℕ) (s : CodeSplice) → IsNextHere text ss i s → ltb 0 (length (replacement text (offset text s.from) (offset text s.to) s.text)) ≡ true → ltb 0 (length (changes_of text ss)) ≡ true
changed-next text ss i s k some =
    let cs : List Change = replacement text (offset text s.from) (offset text s.to) s.text in
    let ds : List Change = edit_changes (length text) (all_changed text cs) (flat_splices text (drop (i + 1) ss)) in
    lt-ltb 0 (length (changes_of text ss)) (omega (arith, ap length k.same, length-append cs ds, ltb-true 0 (length cs) some))

-- and one that doesn't
pub unchanged-more : (text : List ℕ) (ss : List CodeSplice) (i : ℕ) (s : CodeSplice) → IsNextHere text ss i s → ltb 0 (length (replacement text (offset text s.from) (offset text s.to) s.text)) ≡ false → IsUnchanged text ss (i + 1)
unchanged-more text ss i s k none =
    let cs : List Change = replacement text (offset text s.from) (offset text s.to) s.text in
    let no : replacement text (offset text s.from) (offset text s.to) s.text ≡ [] = nil_from_length cs (omega (arith, ltb-false 0 (length cs) none)) in
    record {
      f = offset text s.to;
      later = k.later;
      same = k.same ∙ ap (λ xs. xs ++ edit_changes (length text) (all_changed text xs) (flat_splices text (drop (i + 1) ss))) no;
    }

pub unchanged-all : (text : List ℕ) (ss : List CodeSplice) (i : ℕ) → length ss ≤ i → IsUnchanged text ss i → ltb 0 (length (changes_of text ss)) ≡ false
unchanged-all text ss i le k = ap (λ cs. ltb 0 (length cs)) (k.same ∙ ap (λ ys. edit_changes (length text) text (flat_splices text ys)) (drop_all i ss le))

-- whether an edit is refused since the tree is full, by whether it changes anything
pub undo_full-test : (who : ℕ) (cs : List Change) (s : Story) → (not (is_own who s.group) && leb MAX_NODES (nodes_due s)) && ltb 0 (length cs) ≡ is_undo_full who cs s
undo_full-test who [] s = and-false (not (is_own who s.group) && leb MAX_NODES (nodes_due s))
  where
    and-false : (v : Bool) → v && false ≡ false
    and-false true = refl
    and-false false = refl
undo_full-test who (c ∷ cs) s = ap (λ v. (not (is_own who s.group) && leb MAX_NODES (nodes_due s)) && v) (lt-ltb 0 (length (c ∷ cs)) (omega arith)) ∙ and-true (not (is_own who s.group) && leb MAX_NODES (nodes_due s))
  where
    and-true : (v : Bool) → v && true ≡ v
    and-true true = refl
    and-true false = refl
