-- Changes whose begins rise or fall, by offsets, make one run.
use Rattle.std.proofs.Common.{◌≡◌, ℕ, ◌≤◌, min, List, [], ◌∷◌, length, ap₂, ◌∙◌, arith}
use Rattle.text_model.specs.Coords.{is_at_most}
use Rattle.text_model.specs.Texts.{IsStored, coord_at}
use Rattle.text_model.proofs.PlaceLemmas.{leb_true}
use Rattle.selection_map.specs.declared.walking.ShiftWay.TheVariants.{Rising, Falling}
use Rattle.selection_map.specs.Rebasing.{earlier}
use Rattle.selection_map.specs.Walking.{IsRun}
use Rattle.selection_map.specs.Catching.{Step, Lead, shifts_of, moves_of}
use Rattle.selection_map.specs.Laws.{BeginsRise, BeginsFall}
use Rattle.selection_map.proofs.CarryLemmas.{order-coords, earlier-min}
use Rattle.selection_map.proofs.ShiftLemmas.{IsWayOf, shift-way}
use Rattle.selection_map.proofs.RisingLemmas.{step-of}

pub rising-run : (old : List ℕ) (steps : List Step) → IsStored old → Lead old steps → BeginsRise (moves_of steps) → IsRun Rising (shifts_of steps)
rising-run old [] h l b = tt
rising-run old (st ∷ []) h l b = tt
rising-run old (st ∷ nt ∷ nts) h l b =
    let one : IsWayOf old st.text st.shift st.move = shift-way old st.text st.shift st.move (step-of old st h l.0) in
    let two : IsWayOf st.text nt.text nt.shift nt.move = shift-way st.text nt.text nt.shift nt.move (step-of st.text nt l.0.stored l.1.0) in
    (ap₂ is_at_most one.begin_new two.begin_old ∙ order-coords st.text st.move.begin nt.move.begin l.0.stored.is_text one.in_new two.in_old ∙ leb_true st.move.begin nt.move.begin b.0, rising-run st.text (nt ∷ nts) l.0.stored l.1 b.1)

pub falling-run : (old : List ℕ) (steps : List Step) → IsStored old → Lead old steps → BeginsFall (moves_of steps) → IsRun Falling (shifts_of steps)
falling-run old [] h l b = tt
falling-run old (st ∷ []) h l b = tt
falling-run old (st ∷ nt ∷ nts) h l b =
    let one : IsWayOf old st.text st.shift st.move = shift-way old st.text st.shift st.move (step-of old st h l.0) in
    let two : IsWayOf st.text nt.text nt.shift nt.move = shift-way st.text nt.text nt.shift nt.move (step-of st.text nt l.0.stored l.1.0) in
    let last : st.move.last ≤ length st.text = omega (arith, l.0.shift_is.last_offset) in
    let bound : earlier st.shift.begin st.shift.last ≡ coord_at st.text (min st.move.begin st.move.last) = ap₂ earlier one.begin_new l.0.shift_is.last_is ∙ earlier-min st.text st.move.begin st.move.last l.0.stored.is_text one.in_new last in
    (ap₂ is_at_most two.begin_old bound ∙ order-coords st.text nt.move.begin (min st.move.begin st.move.last) l.0.stored.is_text two.in_old (omega (arith, last)) ∙ leb_true nt.move.begin (min st.move.begin st.move.last) b.0, falling-run st.text (nt ∷ nts) l.0.stored l.1 b.1)
