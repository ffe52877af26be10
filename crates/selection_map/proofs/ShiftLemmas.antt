-- The way of one shift is that of the change that it describes.
use Rattle.std.proofs.Common.{◌≡◌, ℕ, ◌<◌, ◌≤◌, ◌+◌, ◌-◌, min, Bool, true, false, cond, inl, inr, List, length, refl, sym, ap, ◌∙◌, arith, ◌⊎◌, leb-true}
use Rattle.text_model.specs.declared.coords.Coord.{Coord}
use Rattle.text_model.specs.declared.coords.Shift.{Shift}
use Rattle.text_model.specs.Coords.{is_at_most}
use Rattle.text_model.specs.Texts.{IsText, coord_at, last_place}
use Rattle.text_model.specs.Changes.{Move, IsCut, IsChange, IsShift, holder}
use Rattle.text_model.specs.Mapping.{moved, shifted, past_erasure}
use Rattle.text_model.proofs.PlaceLemmas.{offset-coord_at, coord_at-offset, IsPlace-coord_at}
use Rattle.text_model.proofs.MappingLemmas.{past_insertion-before, past_insertion-behind, past_erasure-before, past_erasure-inside, past_erasure-behind, moved-insertion, moved-erasure}
use Rattle.selection_map.specs.declared.reach.ShiftReach.{ShiftReach}
use Rattle.selection_map.specs.Carrying.{IsShiftStep, Carries}
use Rattle.selection_map.specs.Rebasing.{earlier, mapped}
use Rattle.selection_map.specs.Reaching.{goes, reach_of}
use Rattle.selection_map.specs.Premises.{ReachStands, spot}
use Rattle.selection_map.proofs.CarryLemmas.{cut-before, drop-short, length-short, order-coords, earlier-min, carries-mapped}
use Rattle.selection_map.proofs.OrderLemmas.{leb-false}
use Rattle.selection_map.proofs.TieLemmas.{ways, goes-spot}

-- what the way of a shift is for the two texts of its change
pub record IsWayOf (old new : List ℕ) (s : Shift) (m : Move) : Type 0 where
  pub f : ℕ
  pub t : ℕ
  pub stands : ReachStands old new (reach_of s) f t
  pub begin_old : s.begin ≡ coord_at old m.begin
  pub begin_new : s.begin ≡ coord_at new m.begin
  pub in_old : m.begin ≤ length old
  pub in_new : m.begin ≤ length new
  pub onto_behind : m.begin ≤ t
  pub same_before : (o : ℕ) → o ≤ m.begin → coord_at new o ≡ coord_at old o
  pub goes_on : (o : ℕ) → m.begin ≤ o → moved m o ≡ t + (o - f)
  pub stays : (o : ℕ) → o < m.begin → moved m o ≡ o

way-inserted : (s : Shift) → s.insert ≡ true → reach_of s ≡ record { from = s.begin; onto = s.end; put = earlier s.end s.last }
way-inserted s e =
    let a : ShiftReach = record { from = s.begin; onto = s.end; put = earlier s.end s.last } in
    let b : ShiftReach = record { from = s.end; onto = s.begin; put = earlier s.begin s.last } in
    ap (λ v. cond v a b) e

way-erased : (s : Shift) → s.insert ≡ false → reach_of s ≡ record { from = s.end; onto = s.begin; put = earlier s.begin s.last }
way-erased s e =
    let a : ShiftReach = record { from = s.begin; onto = s.end; put = earlier s.end s.last } in
    let b : ShiftReach = record { from = s.end; onto = s.begin; put = earlier s.begin s.last } in
    ap (λ v. cond v a b) e

-- where a way is put, by the coordinates of its end and of the last place
put-at : (new : List ℕ) (at last : Coord) (t l : ℕ) → IsText new → at ≡ coord_at new t → last ≡ coord_at new l → l ≡ last_place new → t ≤ length new → earlier at last ≡ coord_at new (min t (last_place new))
put-at new at last t l h e g k below =
    ap (λ x. earlier x last) e ∙ ap (earlier (coord_at new t)) g ∙ earlier-min new t l h below (omega (arith, k, h.some)) ∙ ap (λ n. coord_at new (min t n)) k

insertion-way : (old new : List ℕ) (s : Shift) (m : Move) → IsText new → IsCut new old m.begin m.end → m.insert ≡ true → IsShift old new s m → IsWayOf old new s m
insertion-way old new s m h c e g =
    let at_begin : s.begin ≡ coord_at new m.begin = g.begin_is ∙ ap (λ x. coord_at (holder x old new) m.begin) e in
    let at_end : s.end ≡ coord_at new m.end = g.end_is ∙ ap (λ x. coord_at (holder x old new) m.end) e in
    let long : length old + (m.end - m.begin) ≡ length new = length-short new old m.begin m.end c in
    let way : reach_of s ≡ record { from = s.begin; onto = s.end; put = earlier s.end s.last } = way-inserted s (g.insert_is ∙ e) in
    let before : coord_at old m.begin ≡ coord_at new m.begin = cut-before new old m.begin m.end m.begin c (omega arith) in
    let in_old : m.begin ≤ length old = omega (arith, long, c.ordered, c.within) in
    record {
      f = m.begin;
      t = m.end;
      stands = record {
        tied = record { from_in = in_old; onto_in = c.within; same = drop-short new old m.begin m.end c };
        from_is = ap (λ (w : ShiftReach). w.from) way ∙ at_begin ∙ sym before;
        onto_is = ap (λ (w : ShiftReach). w.onto) way ∙ at_end;
        put_is = ap (λ (w : ShiftReach). w.put) way ∙ put-at new s.end s.last m.end m.last h at_end g.last_is g.last_offset c.within;
      };
      begin_old = at_begin ∙ sym before;
      begin_new = at_begin;
      in_old = in_old;
      in_new = omega (arith, c.ordered, c.within);
      onto_behind = c.ordered;
      same_before = λ o l. sym (cut-before new old m.begin m.end o c l);
      goes_on = λ o l. (let sum : o + (m.end - m.begin) ≡ m.end + (o - m.begin) = omega (arith, c.ordered) in moved-insertion m o e ∙ past_insertion-behind m.begin (m.end - m.begin) o l ∙ sum);
      stays = λ o l. moved-insertion m o e ∙ past_insertion-before m.begin (m.end - m.begin) o l;
    }

erasure-way : (old new : List ℕ) (s : Shift) (m : Move) → IsText new → IsCut old new m.begin m.end → m.insert ≡ false → IsShift old new s m → IsWayOf old new s m
erasure-way old new s m h c e g =
    let at_begin : s.begin ≡ coord_at old m.begin = g.begin_is ∙ ap (λ x. coord_at (holder x old new) m.begin) e in
    let at_end : s.end ≡ coord_at old m.end = g.end_is ∙ ap (λ x. coord_at (holder x old new) m.end) e in
    let long : length new + (m.end - m.begin) ≡ length old = length-short old new m.begin m.end c in
    let way : reach_of s ≡ record { from = s.end; onto = s.begin; put = earlier s.begin s.last } = way-erased s (g.insert_is ∙ e) in
    let before : coord_at new m.begin ≡ coord_at old m.begin = cut-before old new m.begin m.end m.begin c (omega arith) in
    let in_new : m.begin ≤ length new = omega (arith, long, c.ordered, c.within) in
    record {
      f = m.end;
      t = m.begin;
      stands = record {
        tied = record { from_in = c.within; onto_in = in_new; same = sym (drop-short old new m.begin m.end c) };
        from_is = ap (λ (w : ShiftReach). w.from) way ∙ at_end;
        onto_is = ap (λ (w : ShiftReach). w.onto) way ∙ at_begin ∙ sym before;
        put_is = ap (λ (w : ShiftReach). w.put) way ∙ put-at new s.begin s.last m.begin m.last h (at_begin ∙ sym before) g.last_is g.last_offset in_new;
      };
      begin_old = at_begin;
      begin_new = at_begin ∙ sym before;
      in_old = omega (arith, c.ordered, c.within);
      in_new = in_new;
      onto_behind = omega arith;
      same_before = λ o l. cut-before old new m.begin m.end o c l;
      goes_on = λ o l. moved-erasure m o e ∙ behind o l (ways m.end o);
      stays = λ o l. moved-erasure m o e ∙ past_erasure-before m.begin m.end o l;
    }
  where
    behind : (o : ℕ) → m.begin ≤ o → (m.end < o) ⊎ (o ≤ m.end) → past_erasure m.begin m.end o ≡ m.begin + (o - m.end)
    behind o l (inl lt) = (let sum : o - (m.end - m.begin) ≡ m.begin + (o - m.end) = omega (arith, c.ordered) in past_erasure-behind m.begin m.end o c.ordered lt ∙ sum)
    behind o l (inr le) = (let sum : m.begin ≡ m.begin + (o - m.end) = omega arith in past_erasure-inside m.begin m.end o l le ∙ sum)

way-by : (insert : Bool) (old new : List ℕ) (s : Shift) (m : Move) → m.insert ≡ insert → IsText new → IsChange insert old new m.begin m.end → IsShift old new s m → IsWayOf old new s m
way-by true old new s m e h c g = insertion-way old new s m h c e g
way-by false old new s m e h c g = erasure-way old new s m h c e g

pub shift-way : (old new : List ℕ) (s : Shift) (m : Move) → IsShiftStep old new s m → IsWayOf old new s m
shift-way old new s m h = way-by m.insert old new s m refl h.new_text h.shift_is.change h.shift_is

-- the coordinate of an offset goes to that of the shifted one
pub mapped-at : (old new : List ℕ) (s : Shift) (m : Move) (o : ℕ) → IsShiftStep old new s m → o < length old → mapped s (coord_at old o) ≡ coord_at new (shifted m o)
mapped-at old new s m o h below =
    let c : Carries old new m (coord_at old o) (mapped s (coord_at old o)) = carries-mapped old new s m (coord_at old o) h (IsPlace-coord_at old o below) in
    sym (coord_at-offset new (mapped s (coord_at old o)) c.is_place) ∙ ap (coord_at new) (c.goes ∙ ap (shifted m) (offset-coord_at old o (omega arith)))

-- behind its begin, a shift maps coordinates as its way does
pub mapped-way : (old new : List ℕ) (s : Shift) (m : Move) (o : ℕ) → IsShiftStep old new s m → m.begin ≤ o → o < length old → mapped s (coord_at old o) ≡ goes (reach_of s) (coord_at old o)
mapped-way old new s m o h le below =
    let w : IsWayOf old new s m = shift-way old new s m h in
    let number : shifted m o ≡ spot new w.f w.t o = ap (λ n. min n m.last) (w.goes_on o le) ∙ ap (min (w.t + (o - w.f))) h.shift_is.last_offset in
    mapped-at old new s m o h below ∙ ap (coord_at new) number ∙ sym (goes-spot old new (reach_of s) w.f w.t o h.old_text w.stands below)

-- a place before the begin of a shift stays
pub record Stays (old new : List ℕ) (s : Shift) (o : ℕ) : Type 0 where
  pub same : coord_at new o ≡ coord_at old o
  pub inside : o < length new
  pub kept : mapped s (coord_at old o) ≡ coord_at old o

pub stays-before : (old new : List ℕ) (s : Shift) (m : Move) (o : ℕ) → IsShiftStep old new s m → o < length old → is_at_most s.begin (coord_at old o) ≡ false → Stays old new s o
stays-before old new s m o h below e =
    let w : IsWayOf old new s m = shift-way old new s m h in
    let before : o < m.begin = leb-false m.begin o (sym (order-coords old m.begin o h.old_text w.in_old (omega arith)) ∙ ap (λ x. is_at_most x (coord_at old o)) (sym w.begin_old) ∙ e) in
    let number : shifted m o ≡ o = ap (λ n. min n m.last) (w.stays o before) ∙ omega (arith, h.shift_is.last_offset, w.in_new) in
    let same : coord_at new o ≡ coord_at old o = w.same_before o (omega arith) in
    record { same = same; inside = omega (arith, w.in_new); kept = mapped-at old new s m o h below ∙ ap (coord_at new) number ∙ same }

-- where a shift begins, by the order of offsets
pub begins-by : (old new : List ℕ) (s : Shift) (m : Move) (o : ℕ) → IsShiftStep old new s m → o < length old → is_at_most s.begin (coord_at old o) ≡ true → m.begin ≤ o
begins-by old new s m o h below e =
    let w : IsWayOf old new s m = shift-way old new s m h in
    leb-true m.begin o (sym (order-coords old m.begin o h.old_text w.in_old (omega arith)) ∙ ap (λ x. is_at_most x (coord_at old o)) (sym w.begin_old) ∙ e)
