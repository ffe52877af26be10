-- The list that changes leave, made of the lists that their halves leave.
use Rattle.std.proofs.Common.{◌≡◌, ℕ, suc, ◌+◌, ◌-◌, ◌<◌, ◌≤◌, List, [], ◌∷◌, ◌++◌, length, take, drop, get_or, sym, ap, subst, subst₂, ◌∙◌, arith, Result, Ok, Err, IfOk}
use Rattle.std.proofs.lemmas.List.{length-map, length-take-le, length-drop}
use Rattle.std.proofs.lemmas.List.Elements.{All-nil}
use Rattle.std.specs.List.{AllByRecursion}
use Rattle.text_model.specs.declared.TheConstants.{MAX_SELECTIONS}
use Rattle.text_model.specs.declared.coords.Shift.{Shift}
use Rattle.text_model.specs.Changes.{Change, changed, all_changed}
use Rattle.text_model.proofs.PlaceLemmas.{offset-coord_at, IsPlace-coord_at}
use Rattle.list_model.specs.Ranges.{Range, Selected}
use Rattle.list_model.specs.Settling.{settled}
use Rattle.list_model.specs.Settled.{IsSettled}
use Rattle.list_model.proofs.SortLemmas.{settled-settles}
use Rattle.list_model.proofs.UniqueLemmas.{same_range}
use Rattle.undo_model.specs.Marks.{mark, marks, last_ones, list_or}
use Rattle.undo_model.specs.Laws.{IsInText}
use Rattle.undo_model.proofs.MarkLemmas.{marks-inside}
use Rattle.selection_set.specs.declared.sel.Sel.{Sel}
use Rattle.selection_set.specs.Inside.{range_of, IsInside}
use Rattle.selection_set.specs.Listing.{Listed, ranges_of, AreInside, IsSettledIn}
use Rattle.selection_set.specs.Held.{selected}
use Rattle.selection_set.proofs.HeldLemmas.{settled-held, held-order, selected-is}
use Rattle.selection_map.specs.Catching.{Step, CanCatchUp, IsCatchable, IsCaughtUp, eager_by, IsCaughtUpBy}
use Rattle.selection_map.proofs.StepLemmas.{changes-catchable, changes-caught}
use Rattle.move_marks.specs.Marking.{sel_at, AreMarked, AreOfChanges, IsLeftBy}
use Rattle.move_marks.specs.Joining.{IsPlain, in_one, count_ahead}
use Rattle.move_marks.proofs.PlainLemmas.{IsSpan, plain-ranges, span-of, settled-of, settled-short}
use Rattle.move_marks.proofs.JoinLemmas.{IsTogether, all-append, together-map, span-joined}
use Rattle.move_marks.proofs.MergeLemmas.{together-one, inside-one}
use Rattle.move_marks.proofs.MarkedLemmas.{marked-take, marked-drop, changed-rest, marks-many, carried_by, carried_by-length, marks-length, marks-parts, marks-last, plain-by, plain-marks, span-eager}

-- a list is the settled list of all marks
abbrev pub IsLeft : List ℕ → List Change → Listed → Type 0
IsLeft text cs s = IsSettledIn (all_changed text cs) (marks text [] cs) (length cs - 1) s

-- whatever the text and the changes are
abbrev pub IsLeftFor : List Sel → List Shift → Listed → Type 0
IsLeftFor ms ss s = (text : List ℕ) (cs : List Change) → AreMarked text cs ms ss → IsLeft text cs s

-- one mark

pub sel-range : (text : List ℕ) (r : Range) → IsPlain r → IsInText text r → range_of text (sel_at text r) ≡ r
sel-range text r p h =
    same_range (range_of text (sel_at text r)) r (offset-coord_at text r.low (omega (arith, h.ordered, h.inside))) (offset-coord_at text r.high (omega (arith, h.inside))) (sym p.straight) (sym p.untargeted)

pub sel-inside : (text : List ℕ) (r : Range) → IsInText text r → IsInside text (sel_at text r)
sel-inside text r h = record {
  low = IsPlace-coord_at text r.low (omega (arith, h.ordered, h.inside));
  high = IsPlace-coord_at text r.high h.inside;
  ordered = omega (arith, h.ordered, offset-coord_at text r.low (omega (arith, h.ordered, h.inside)), offset-coord_at text r.high (omega (arith, h.inside)));
}

one-settled : (text : List ℕ) (r : Range) (s : Listed) → IsPlain r → IsInText text r → s ≡ record { list = sel_at text r ∷ []; main = 0 } → IsSettledIn text (r ∷ []) 0 s
one-settled text r s p h e =
    let one : IsSettled (r ∷ []) 0 (r ∷ []) 0 = settled-settles (record { list = r ∷ []; main = 0 }) (p.ordered, tt) tt in
    subst (IsSettledIn text (r ∷ []) 0) (sym e) (record {
      inside = (sel-inside text r h, tt);
      settled = subst (λ x. IsSettled (r ∷ []) 0 (x ∷ []) 0) (sym (sel-range text r p h)) one;
    })

pub one-left : (ms : List Sel) (ss : List Shift) (d : Sel) (s : Listed) → length ms ≡ 1 → s ≡ record { list = get_or ms 0 d ∷ []; main = 0 } → IsLeftFor ms ss s
one-left ms ss d s l e text [] m = absurd (omega (arith, l, marks-many text [] ms ss m))
one-left ms ss d s l e text (c ∷ []) m =
    let now : List ℕ = changed text c in
    let is : get_or ms 0 d ≡ sel_at now (mark now c) = ap (λ t. get_or t 0 d) m.marks_are in
    let inside : IsInText now (mark now c) = marks-inside text [] (c ∷ []) m.steps (All-nil (IsInText text)) 0 (mark now c) (omega arith) in
    let made : s ≡ record { list = sel_at now (mark now c) ∷ []; main = 0 } = e ∙ ap (λ (x : Sel). let t : Listed = record { list = x ∷ []; main = 0 } in t) is in
    one-settled now (mark now c) s (plain-marks text (c ∷ []) m.steps).0 inside made
one-left ms ss d s l e text (c ∷ (b ∷ cs)) m = absurd (omega (arith, l, marks-many text (c ∷ (b ∷ cs)) ms ss m))

-- the first half, carried through the changes of the second

pub first-catchable : (h : ℕ) (ms : List Sel) (ss : List Shift) (first : Listed) → AreOfChanges ms ss → IsLeftFor (take h ms) (take h ss) first → IsCatchable (drop h ss) first
first-catchable h ms ss first o left =
    let front : List Change = take h o.changes in
    let mid : List ℕ = all_changed o.text front in
    let rest : AreMarked mid (drop h o.changes) (drop h ms) (drop h ss) = marked-drop h o.text o.changes ms ss o.marked in
    changes-catchable mid (drop h o.changes) (drop h ss) first rest.stored rest.shifts_are (settled-held mid (marks o.text [] front) (length front - 1) first (left o.text front (marked-take h o.text o.changes ms ss o.marked)))

first-moved : (h : ℕ) (ms : List Sel) (ss : List Shift) (first moved : Listed) → IsLeftFor (take h ms) (take h ss) first → ((old : List ℕ) (steps : List Step) → CanCatchUp old steps (drop h ss) first → IsCaughtUp old steps first moved)
    → (text : List ℕ) (cs : List Change) → AreMarked text cs ms ss
    → IsSettledIn (all_changed text cs) (carried_by (all_changed text (take h cs)) (drop h cs) (marks text [] (take h cs))) (length (take h cs) - 1) moved
first-moved h ms ss first moved left caught text cs m =
    let front : AreMarked text (take h cs) (take h ms) (take h ss) = marked-take h text cs ms ss m in
    let mid : List ℕ = all_changed text (take h cs) in
    let rest : AreMarked mid (drop h cs) (drop h ms) (drop h ss) = marked-drop h text cs ms ss m in
    let given : List Range = marks text [] (take h cs) in
    let main : ℕ = length (take h cs) - 1 in
    let plain : AllByRecursion IsPlain given = plain-marks text (take h cs) front.steps in
    let old : IsSettledIn mid given main first = left text (take h cs) front in
    let now : IsCaughtUpBy mid (drop h cs) first moved = changes-caught mid (drop h cs) (drop h ss) first moved caught rest.stored rest.shifts_are (settled-held mid given main first old) in
    let span : IsSpan (carried_by mid (drop h cs) given) main (eager_by mid (drop h cs) (selected mid first)).list (eager_by mid (drop h cs) (selected mid first)).main =
    span-eager mid (drop h cs) given main (selected mid first) rest.steps plain (span-of given (ranges_of mid first.list) main first.main plain old.settled) in
    let there : IsSpan (carried_by mid (drop h cs) given) main (selected (all_changed mid (drop h cs)) moved).list (selected (all_changed mid (drop h cs)) moved).main =
    subst (λ (t : Selected). IsSpan (carried_by mid (drop h cs) given) main t.list t.main) (sym now.moved) span in
    let settled_in : IsSettledIn (all_changed mid (drop h cs)) (carried_by mid (drop h cs) given) main moved = record {
      inside = now.held.inside;
      settled = settled-of (carried_by mid (drop h cs) given) (ranges_of (all_changed mid (drop h cs)) moved.list) main moved.main (plain-by mid given (drop h cs) rest.steps plain) there;
    } in
    subst (λ t. IsSettledIn t (carried_by mid (drop h cs) given) main moved) (changed-rest h text cs) settled_in

second-there : (h : ℕ) (ms : List Sel) (ss : List Shift) (second : Listed) → IsLeftFor (drop h ms) (drop h ss) second → (text : List ℕ) (cs : List Change) → AreMarked text cs ms ss
    → IsSettledIn (all_changed text cs) (marks (all_changed text (take h cs)) [] (drop h cs)) (length (drop h cs) - 1) second
second-there h ms ss second left text cs m =
    let mid : List ℕ = all_changed text (take h cs) in
    subst (λ t. IsSettledIn t (marks mid [] (drop h cs)) (length (drop h cs) - 1) second) (changed-rest h text cs) (left mid (drop h cs) (marked-drop h text cs ms ss m))

short-in : (text : List ℕ) (given : List Range) (main : ℕ) (s : Listed) → AllByRecursion IsPlain given → main < length given → IsSettledIn text given main s → length s.list ≤ length given
short-in text given main s p l h = omega (arith, settled-short given (ranges_of text s.list) main s.main (plain-ranges given p) l h.settled, length-map s.list (range_of text))

-- the list of the first half, before and behind the changes of the second half, and the list of the second half
pub record AreHalves (h : ℕ) (ms : List Sel) (ss : List Shift) (first moved second : Listed) : Type 0 where
  pub some : 0 < h
  pub more : h < length ms
  pub left : IsLeftFor (take h ms) (take h ss) first
  pub caught : (old : List ℕ) (steps : List Step) → CanCatchUp old steps (drop h ss) first → IsCaughtUp old steps first moved
  pub right : IsLeftFor (drop h ms) (drop h ss) second

-- the same by what the code has
pub halves-are : (h : ℕ) (ms front back : List Sel) (ss fronts backs : List Shift) (first moved second : Listed) → front ≡ take h ms → back ≡ drop h ms → fronts ≡ take h ss → backs ≡ drop h ss → 0 < h → h < length ms
    → IsLeftFor front fronts first → ((old : List ℕ) (steps : List Step) → CanCatchUp old steps backs first → IsCaughtUp old steps first moved) → IsLeftFor back backs second → AreHalves h ms ss first moved second
halves-are h ms front back ss fronts backs first moved second e f g k some more left caught right =
    let C : List Shift → Type 0 = λ bs. (old : List ℕ) (steps : List Step) → CanCatchUp old steps bs first → IsCaughtUp old steps first moved in
    record {
      some = some;
      more = more;
      left = subst₂ (λ x y. IsLeftFor x y first) e g left;
      caught = subst C k caught;
      right = subst₂ (λ x y. IsLeftFor x y second) f k right;
    }

-- both halves together are no more than all marks
pub halves-few : (h : ℕ) (ms : List Sel) (ss : List Shift) (first moved second : Listed) → AreOfChanges ms ss → AreHalves h ms ss first moved second → length moved.list + length second.list ≤ length ms
halves-few h ms ss first moved second o halves =
    let text : List ℕ = o.text in
    let cs : List Change = o.changes in
    let mid : List ℕ = all_changed text (take h cs) in
    let front : AreMarked text (take h cs) (take h ms) (take h ss) = marked-take h text cs ms ss o.marked in
    let rest : AreMarked mid (drop h cs) (drop h ms) (drop h ss) = marked-drop h text cs ms ss o.marked in
    let given : List Range = marks text [] (take h cs) in
    let many : length ms ≡ length cs = marks-many text cs ms ss o.marked in
    let taken : length (take h cs) ≡ h = length-take-le h cs (omega (arith, many, halves.more)) in
    let others : length (drop h cs) ≡ length cs - h = length-drop h cs in
    let carried : length (carried_by mid (drop h cs) given) ≡ h = omega (arith, carried_by-length mid (drop h cs) given, marks-length text [] (take h cs), taken) in
    let own : length (marks mid [] (drop h cs)) ≡ length cs - h = omega (arith, marks-length mid [] (drop h cs), others) in
    let one : length moved.list ≤ length (carried_by mid (drop h cs) given) =
    short-in (all_changed text cs) (carried_by mid (drop h cs) given) (length (take h cs) - 1) moved (plain-by mid given (drop h cs) rest.steps (plain-marks text (take h cs) front.steps)) (omega (arith, carried, taken, halves.some))
    (first-moved h ms ss first moved halves.left halves.caught text cs o.marked) in
    let two : length second.list ≤ length (marks mid [] (drop h cs)) =
    short-in (all_changed text cs) (marks mid [] (drop h cs)) (length (drop h cs) - 1) second (plain-marks mid (drop h cs) rest.steps) (omega (arith, own, others, many, halves.more)) (second-there h ms ss second halves.right text cs o.marked) in
    omega (arith, one, two, carried, own, many, halves.more)

abbrev pub JoinsTo : Listed → Listed → Listed → Type 0
JoinsTo first second s =
    (text : List ℕ) (xs zs : List Range) (m n : ℕ) → AllByRecursion IsPlain xs → AllByRecursion IsPlain zs → IsSettledIn text xs m first → IsSettledIn text zs n second → IsSettledIn text (xs ++ zs) (length xs + n) s

pub halves-left : (h : ℕ) (ms : List Sel) (ss : List Shift) (first moved second s : Listed) → AreHalves h ms ss first moved second → JoinsTo moved second s → IsLeftFor ms ss s
halves-left h ms ss first moved second s halves joins text cs m =
    let mid : List ℕ = all_changed text (take h cs) in
    let front : AreMarked text (take h cs) (take h ms) (take h ss) = marked-take h text cs ms ss m in
    let rest : AreMarked mid (drop h cs) (drop h ms) (drop h ss) = marked-drop h text cs ms ss m in
    let given : List Range = marks text [] (take h cs) in
    let carried : List Range = carried_by mid (drop h cs) given in
    let own : List Range = marks mid [] (drop h cs) in
    let many : length ms ≡ length cs = marks-many text cs ms ss m in
    let taken : length (take h cs) ≡ h = length-take-le h cs (omega (arith, many, halves.more)) in
    let others : length (drop h cs) ≡ length cs - h = length-drop h cs in
    let long : length carried ≡ h = omega (arith, carried_by-length mid (drop h cs) given, marks-length text [] (take h cs), taken) in
    let main : length carried + (length (drop h cs) - 1) ≡ length cs - 1 = omega (arith, long, others, many, halves.more, halves.some) in
    let all : IsSettledIn (all_changed text cs) (carried ++ own) (length carried + (length (drop h cs) - 1)) s =
    joins (all_changed text cs) carried own (length (take h cs) - 1) (length (drop h cs) - 1) (plain-by mid given (drop h cs) rest.steps (plain-marks text (take h cs) front.steps)) (plain-marks mid (drop h cs) rest.steps)
    (first-moved h ms ss first moved halves.left halves.caught text cs m) (second-there h ms ss second halves.right text cs m) in
    subst₂ (λ rs n. IsSettledIn (all_changed text cs) rs n s) (sym (marks-parts h text cs)) main all

-- the last marks, where there are more than a list may have

list_or-some : (before : Selected) (rs : List Range) → 0 < length rs → list_or before rs ≡ settled (record { list = rs; main = length rs - 1 })
list_or-some before [] l = absurd (omega (arith, l))
list_or-some before (r ∷ rs) l = let e : length rs ≡ suc (length rs) - 1 = omega arith in ap (λ n. settled (record { list = r ∷ rs; main = n })) e

pub left-by : (n : ℕ) (ms : List Sel) (ss : List Shift) (s : Listed) → n ≡ length ms - MAX_SELECTIONS → n < length ms → IsLeftFor (drop n ms) (drop n ss) s → (text : List ℕ) (cs : List Change) → AreMarked text cs ms ss → IsLeftBy text cs s
left-by n ms ss s is more left text cs m =
    let mid : List ℕ = all_changed text (take n cs) in
    let rest : AreMarked mid (drop n cs) (drop n ms) (drop n ss) = marked-drop n text cs ms ss m in
    let many : length ms ≡ length cs = marks-many text cs ms ss m in
    let own : List Range = marks mid [] (drop n cs) in
    let plain : AllByRecursion IsPlain own = plain-marks mid (drop n cs) rest.steps in
    let long : length own ≡ length (drop n cs) = omega (arith, marks-length mid [] (drop n cs)) in
    let others : length (drop n cs) ≡ length cs - n = length-drop n cs in
    let skipped : length (marks text [] cs) - MAX_SELECTIONS ≡ n = ap (λ k. k - MAX_SELECTIONS) (marks-length text [] cs ∙ none (length cs) ∙ sym many) ∙ sym is in
    let last : last_ones MAX_SELECTIONS (marks text [] cs) ≡ own = ap (λ k. drop k (marks text [] cs)) skipped ∙ marks-last n text cs (omega (arith, more, many)) in
    let there : IsSettledIn (all_changed text cs) own (length own - 1) s =
    subst₂ (λ t k. IsSettledIn t own (k - 1) s) (changed-rest n text cs) (sym long) (left mid (drop n cs) rest) in
    record {
      held = settled-held (all_changed text cs) own (length own - 1) s there;
      left = λ before. (selected-is (all_changed text cs) (record { list = own; main = length own - 1 }) s (plain-ranges own plain) (omega (arith, long, others, more, many)) there
          ∙ sym (list_or-some before own (omega (arith, long, others, more, many))) ∙ sym (ap (list_or before) last));
    }
  where
    none : (k : ℕ) → 0 + k ≡ k
    none k = omega arith

-- two lists joined

pub joins : (first second s : Listed) (main : Sel) (list : List Sel) (place : ℕ) → ((d : Sel) → main ≡ get_or second.list second.main d) → second.main < length second.list → list ≡ in_one first.list second.list → place ≡ second.main + count_ahead main.low first.list
    → ((text : List ℕ) → AreInside text list → IsSettledIn text (ranges_of text list) place s) → JoinsTo first second s
joins first second s main list place at below is there settles text xs zs m n h k i j =
    let one : List Sel = in_one first.list second.list in
    let spot : ℕ = second.main + count_ahead main.low first.list in
    let together : IsTogether (ranges_of text first.list) (ranges_of text second.list) (ranges_of text one) second.main spot =
    together-map (range_of text) first.list second.list one second.main spot (together-one text first.list second.list second.main main at below i.inside j.inside (held-order text second (settled-held text zs n second j))) in
    let P : List Sel → ℕ → Type 0 = λ l q. AreInside text l → IsSettledIn text (ranges_of text l) q s in
    let all : IsSettledIn text (ranges_of text one) spot s = subst₂ P is there (settles text) (inside-one text first.list second.list i.inside j.inside) in
    let front : IsSpan xs m (ranges_of text first.list) first.main = span-of xs (ranges_of text first.list) m first.main h i.settled in
    let back : IsSpan zs n (ranges_of text second.list) second.main = span-of zs (ranges_of text second.list) n second.main k j.settled in
    let plain : AllByRecursion IsPlain (ranges_of text one) = together.back IsPlain front.plain back.plain in
    let span : IsSpan (xs ++ zs) (length xs + n) (ranges_of text s.list) s.main =
    span-joined xs zs (ranges_of text first.list) (ranges_of text second.list) (ranges_of text one) (ranges_of text s.list) m n first.main second.main spot s.main front back together
    (span-of (ranges_of text one) (ranges_of text s.list) spot s.main plain all.settled) in
    record { inside = all.inside; settled = settled-of (xs ++ zs) (ranges_of text s.list) (length xs + n) s.main (all-append IsPlain xs zs h k) span }

pub ok-weaker : {A E : Type 0} (P Q : A → Type 0) (r : Result A E) → ((x : A) → P x → Q x) → IfOk r P → IfOk r Q
ok-weaker P Q (Ok x) f h = f x h
ok-weaker P Q (Err e) f h = h

pub joins-ok : {E : Type 0} (r : Result Listed E) (first second : Listed) (main : Sel) (list : List Sel) (place : ℕ) → ((d : Sel) → main ≡ get_or second.list second.main d) → second.main < length second.list → list ≡ in_one first.list second.list
    → place ≡ second.main + count_ahead main.low first.list → IfOk r (λ s. (text : List ℕ) → AreInside text list → IsSettledIn text (ranges_of text list) place s) → IfOk r (JoinsTo first second)
joins-ok r first second main list place at below is there h =
    ok-weaker (λ s. (text : List ℕ) → AreInside text list → IsSettledIn text (ranges_of text list) place s) (JoinsTo first second) r (λ s k. joins first second s main list place at below is there k) h

pub halves-ok : {E : Type 0} (r : Result Listed E) (h : ℕ) (ms : List Sel) (ss : List Shift) (first moved second : Listed) → AreHalves h ms ss first moved second → IfOk r (JoinsTo moved second) → IfOk r (IsLeftFor ms ss)
halves-ok r h ms ss first moved second halves joins = ok-weaker (JoinsTo moved second) (IsLeftFor ms ss) r (λ s k. halves-left h ms ss first moved second s halves k) joins

pub left-ok : {E : Type 0} (r : Result Listed E) (n : ℕ) (ms : List Sel) (ss : List Shift) → n ≡ length ms - MAX_SELECTIONS → n < length ms → IfOk r (IsLeftFor (drop n ms) (drop n ss)) → IfOk r (λ s. (text : List ℕ) (cs : List Change) → AreMarked text cs ms ss → IsLeftBy text cs s)
left-ok r n ms ss is more h =
    ok-weaker (IsLeftFor (drop n ms) (drop n ss)) (λ s. (text : List ℕ) (cs : List Change) → AreMarked text cs ms ss → IsLeftBy text cs s) r (λ s k. left-by n ms ss s is more k) h
