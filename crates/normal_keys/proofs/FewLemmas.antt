-- Lists that don't become longer.
use Rattle.std.proofs.Common.{◌≡◌, ℕ, suc, ◌≤◌, Bool, true, false, List, [], ◌∷◌, length, map, None, refl, sym, ap, ◌∙◌, arith}
use Rattle.std.specs.Prelude.{if◌then◌else◌, nat_le}
use Rattle.std.specs.declared.option.Option.{Option}
use Rattle.std.proofs.lemmas.Bool.{false≢true}
use Rattle.std.proofs.lemmas.List.{length-map}
use Rattle.list_model.specs.Ranges.{Range, Selected}
use Rattle.list_model.specs.Settling.{placed, sorted, swept, ranges, each_settled}
use Rattle.list_model.proofs.EmbedLemmas.{swept_no_longer}
use Rattle.kak_world.specs.declared.own.Own.{Own}
use Rattle.kak_world.specs.Flat.{Flat, is_joined, acts, sels_of, view_of, tabstop_of, text_of, units_of, with_units}
use Rattle.kak_world.proofs.WorldLaws.{own_own, sels_sels, sels_own, sels_rest, acts_joined}
use Rattle.kak_world.proofs.KeepingLaws.{acts_kept, keeps_units}
use Rattle.list_keys.specs.declared.changes.ListChange.{ListChange}
use Rattle.list_keys.specs.declared.changes.ListChange.TheVariants.{WholeText, MainAlone, WithoutMain, Cut, Split, Copied}
use Rattle.list_keys.specs.Cuts.{cut_by}
use Rattle.list_keys.specs.Rows.{main_turned}
use Rattle.list_keys.specs.Changes.{change_adds, made_count}
use Rattle.list_keys.proofs.RowLemmas.{made-few}
use Rattle.normal_keys.specs.Recording.{recording_of}
use Rattle.normal_keys.specs.Rows.{client_cleared}
use Rattle.normal_keys.specs.declared.actions.Repeated.{Repeated}
use Rattle.normal_keys.specs.declared.actions.Repeated.TheVariants.{Moves, TurnsMain, Travels, GoesToNode, Puts}
use Rattle.key_rows.specs.declared.each.Each.{Each}
use Rattle.key_rows.specs.declared.each.Each.TheVariants as each
use Rattle.key_rows.specs.Each.{each_range, each_changed}
use Rattle.normal_keys.specs.Repeating.{once, repeated_grows}
use Rattle.kak_world.specs.Rows.{RowEnd, does}
use Rattle.normal_keys.proofs.KeepingLaws.{keeps-once}

length-placed : (r : Range) (rs : List Range) → length (placed r rs) ≡ suc (length rs)
length-placed r [] = refl
length-placed r (s ∷ ss) = put (nat_le r.low s.low) (length-placed r ss)
  where
    put : (b : Bool) → length (placed r ss) ≡ suc (length ss) → length (if b then r ∷ s ∷ ss else s ∷ placed r ss) ≡ suc (suc (length ss))
    put true e = refl
    put false e = ap suc e

length-sorted : (rs : List Range) → length (sorted rs) ≡ length rs
length-sorted [] = refl
length-sorted (r ∷ rs) = length-placed r (sorted rs) ∙ ap suc (length-sorted rs)

swept-few : (rs : List Range) → length (swept rs) ≤ length rs
swept-few [] = omega arith
swept-few (r ∷ rs) = swept_no_longer ranges r rs

-- settling makes no list longer
each-few : (f : Range → Range) (s : Selected) → length (each_settled f s).list ≤ length s.list
each-few f s = omega (arith, swept-few (sorted (map f s.list)), length-sorted (map f s.list), length-map s.list f)

changed-few : (change : Each) (who : ℕ) (flat : Flat) → is_joined who flat ≡ true → length (sels_of who (each_changed change who flat)).list ≤ length (sels_of who flat).list
changed-few change who flat j =
    let f : Range → Range = each_range change (view_of who flat) (tabstop_of who flat) (text_of who flat) in
    omega (arith, each-few f (sels_of who flat), ap (λ (s : Selected). length s.list) (sels_sels who (each_settled f (sels_of who flat)) flat j))

-- one run that can't add selections makes no list longer
once-few : (what : Repeated) (register : Option ℕ) (who : ℕ) (flat : Flat) → repeated_grows what ≡ false → is_joined who flat ≡ true → length (sels_of who (once what register who flat).world).list ≤ length (sels_of who flat).list
once-few (Moves motion reach) register who flat a j = changed-few (each.Moved motion reach) who flat j
once-few (TurnsMain direction) register who flat a j = omega (arith, ap (λ (s : Selected). length s.list) (sels_sels who (main_turned direction (sels_of who flat)) flat j))
once-few (Travels travel) register who flat a j = absurd (false≢true (sym a))
once-few (GoesToNode direction) register who flat a j = absurd (false≢true (sym a))
once-few (Puts how) register who flat a j = absurd (false≢true (sym a))

pub run-few : (what : Repeated) (register : Option ℕ) (who : ℕ) (before after : Flat) → repeated_grows what ≡ false → acts who before ≡ true → once what register who before ≡ does after → length (sels_of who before).list ≤ 4 → length (sels_of who after).list ≤ 4
run-few what register who before after a j e h = omega (arith, h, once-few what register who before a (acts_joined who before j), ap (λ (x : RowEnd). length (sels_of who x.world).list) e)

-- and nobody goes
pub run-stays : (what : Repeated) (register : Option ℕ) (who : ℕ) (before after : Flat) → acts who before ≡ true → once what register who before ≡ does after → acts who after ≡ true
run-stays what register who before after j e = sym (ap (λ (x : RowEnd). acts who x.world) e) ∙ acts_kept who before (once what register who before).world (keeps-once what register who before) ∙ j

-- a unit that was taken is none of the list's
pub unit-few : (who : ℕ) (before after : Flat) → after ≡ with_units (units_of after) before → length (sels_of who before).list ≤ 4 → length (sels_of who after).list ≤ 4
unit-few who before after e h = omega (arith, h, ap (λ (w : Flat). length (sels_of who w).list) e, ap (λ (s : Selected). length s.list) (sels_rest who (λ r. record r { step = record r.step { units = units_of after } }) before))

pub unit-stays : (who : ℕ) (before after : Flat) → after ≡ with_units (units_of after) before → acts who before ≡ true → acts who after ≡ true
unit-stays who before after e j = ap (acts who) e ∙ acts_kept who before _ (keeps_units (units_of after) before) ∙ j

pub cleared-few : (who : ℕ) (before after : Flat) → after ≡ client_cleared who before → length (sels_of who before).list ≤ 4 → length (sels_of who after).list ≤ 4
cleared-few who before after e h = omega (arith, h, ap (λ (w : Flat). length (sels_of who w).list) e, ap (λ (s : Selected). length s.list) (sels_own who who (λ o. record o { count = 0; register = None; pending = None }) before))

-- nor is what the client records
pub cleared-records : (who : ℕ) (before after : Flat) → acts who before ≡ true → after ≡ client_cleared who before → recording_of who after ≡ recording_of who before
cleared-records who before after j e =
    ap (recording_of who) e ∙ ap (λ (o : Own). o.recording) (own_own who (λ o. record o { count = 0; register = None; pending = None }) before (acts_joined who before j))

-- a change that adds none makes no more than there were, or one
pub unadding-few : (change : ListChange) (text : List ℕ) (s : Selected) → change_adds change ≡ false → length s.list ≤ 4 → made_count change text s ≤ 4
unadding-few WholeText text s e h = omega arith
unadding-few MainAlone text s e h = omega arith
unadding-few WithoutMain text s e h = omega (arith, h)
unadding-few (Cut how) text s e h = omega (arith, h, made-few (cut_by how text) s.list)
unadding-few (Split how) text s e h = absurd (false≢true (sym e))
unadding-few (Copied direction) text s e h = absurd (false≢true (sym e))
