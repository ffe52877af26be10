-- What each change of the world leaves so, each row that edits, enters insert mode or puts leaves so.
use Rattle.std.proofs.Common.{◌≡◌, ◌≤◌, ℕ, suc, Bool, true, false, cond, List, [], ◌∷◌, length, refl, ap, ◌∙◌, arith}
use Rattle.std.specs.Prelude.{if◌then◌else◌, Some, None}
use Rattle.std.specs.declared.option.Option.{Option}
use Rattle.list_model.specs.Ranges.{Selected}
use Rattle.undo_model.specs.declared.travel.Travel.{Travel}
use Rattle.undo_model.specs.Edits.{Splice, is_too_long}
use Rattle.undo_model.specs.Stories.{is_undo_full}
use Rattle.undo_model.specs.Moves.{target_of}
use Rattle.kak_registers.specs.declared.names.RegisterError.{RegisterError}
use Rattle.kak_registers.specs.Refusals.{register_refusal}
use Rattle.edit_ops.specs.declared.kinds.Put.{Put}
use Rattle.edit_ops.specs.declared.kinds.Put.TheVariants.{Over}
use Rattle.edit_ops.specs.Putting.{put_in_at}
use Rattle.edit_ops.specs.Aligning.{shares_line, alignments}
use Rattle.kak_world.specs.declared.own.Own.{Own}
use Rattle.kak_world.specs.declared.own.Mode.TheVariants.{Insert}
use Rattle.kak_world.specs.declared.events.HookEvent.{HookEvent}
use Rattle.kak_world.specs.Events.{noted, mode_entered}
use Rattle.kak_world.proofs.EventLaws.{keeps_noted, units_noted}
use Rattle.kak_world.specs.Flat.{Flat, text_of, tabstop_of, sels_of, story_of, units_of, with_own, with_sels, with_units}
use Rattle.kak_world.specs.Changing.{splice_changes_of, edited_by, traveled_by, commits}
use Rattle.kak_world.specs.Rows.{Row, RowEnd, Asks, Fails, GivesUp, does, fails}
use Rattle.kak_world.specs.Registers.{set_unless, set_row}
use Rattle.kak_world.specs.declared.ask.EditError.TheVariants.{SharedLine, UndoFull, TextFull}
use Rattle.kak_world.specs.Keeping.{KeepsClients}
use Rattle.kak_world.specs.Editing.{edit_row, travel_row, move_ends}
use Rattle.kak_world.proofs.KeepingLaws.{keeps_same, keeps_after, keeps_units, keeps_own, keeps_sels, keeps_commits, keeps_edit_row, keeps_set_row, keeps_travel_row}
use Rattle.kak_world.proofs.WorldLaws.{units_in, units_units, rest_own, rest_rest, rest_sels, rest_buffers, edited_writes, traveled_writes, commits_writes}
use Rattle.key_rows.specs.declared.each.Each.{Each}
use Rattle.key_rows.specs.declared.edits.Edit.{Edit}
use Rattle.key_rows.specs.declared.edits.Edit.TheVariants as edit
use Rattle.key_rows.specs.declared.entries.InsertEntry.{InsertEntry}
use Rattle.key_rows.specs.declared.entries.InsertEntry.TheVariants as entry
use Rattle.key_rows.specs.Sequence.{behind, then_row}
use Rattle.key_rows.specs.Each.{each_changed}
use Rattle.key_rows.specs.Reading.{used, own_strings, strings_read}
use Rattle.key_rows.specs.Edits.{leaving_row, erase_row, keep_row, cut_row, with_strings, put_row, align_row, edit_done}
use Rattle.key_rows.specs.Entering.{reaches_end, room_row, place_row, enter_row}

-- a relation of the worlds before and after a row
abbrev pub HoldsIn : (Flat → Flat → Type 0) → (Flat → RowEnd) → Type 0
HoldsIn R row = (flat : Flat) → R flat (row flat).world

-- A relation of worlds before and after that holds of each change that keys make of the world.
pub record HoldsOfChanges (R : Flat → Flat → Type 0) : Type 0 where
  pub same : (flat : Flat) → R flat flat
  pub behind : (a b c : Flat) → R a b → R b c → R a c
  pub unit : (left : ℕ) (flat : Flat) → units_of flat ≡ suc left → R flat (with_units left flat)
  pub own : (who : ℕ) (f : Own → Own) (flat : Flat) → R flat (with_own who f flat)
  pub sels : (who : ℕ) (sels : Selected) (flat : Flat) → R flat (with_sels who sels flat)
  pub commits : (who : ℕ) (flat : Flat) → R flat (commits who flat)
  pub notes : (event : HookEvent) (flat : Flat) → R flat (noted event flat)
  pub registers : (name : ℕ) (strings : List (List ℕ)) (flat : Flat) → R flat (set_row name strings flat).world
  pub edits : (splices : List Splice) (who : ℕ) (flat : Flat) → R flat (edit_row splices who flat).world
  pub travels : (travel : Travel) (who : ℕ) (flat : Flat) → R flat (travel_row travel who flat).world

-- the clients are kept by each
pub clients_kept : HoldsOfChanges KeepsClients
clients_kept = record {
  same = keeps_same;
  behind = keeps_after;
  unit = λ left flat e. keeps_units left flat;
  own = keeps_own;
  sels = keeps_sels;
  commits = keeps_commits;
  notes = keeps_noted;
  registers = keeps_set_row;
  edits = keeps_edit_row;
  travels = keeps_travel_row;
}

-- no more units are left than before
abbrev pub TakesUnits : Flat → Flat → Type 0
TakesUnits old new = units_of new ≤ units_of old

as-many : (n o : ℕ) → n ≡ o → n ≤ o
as-many n o e = omega (arith, e)

fewer : (a b c : ℕ) → b ≤ a → c ≤ b → c ≤ a
fewer a b c e f = omega (arith, e, f)

one-fewer : (n left o : ℕ) → n ≡ left → o ≡ suc left → n ≤ o
one-fewer n left o e f = omega (arith, e, f)

units-registers : (name : ℕ) (strings : List (List ℕ)) (flat : Flat) → TakesUnits flat (set_row name strings flat).world
unfolding set_row
units-registers name strings flat = by (register_refusal name strings)
  where
    by : (o : Option RegisterError) → TakesUnits flat (set_unless o name strings flat).world
    by None = as-many _ _ (ap units_in (rest_rest _ flat))
    by (Some refusal) = as-many (units_of flat) _ refl

units-edits : (splices : List Splice) (who : ℕ) (flat : Flat) → TakesUnits flat (edit_row splices who flat).world
unfolding edit_row
units-edits splices who flat = by (is_undo_full who (splice_changes_of splices who flat) (story_of who flat)) (is_too_long (length (text_of who flat)) (text_of who flat) splices)
  where
    by : (s t : Bool) → TakesUnits flat (cond s (fails UndoFull flat) (cond t (fails TextFull flat) (does (edited_by splices who flat)))).world
    by true t = as-many (units_of flat) _ refl
    by false true = as-many (units_of flat) _ refl
    by false false = as-many _ _ (ap units_of (edited_writes splices who flat) ∙ ap units_in (rest_buffers _ flat))

units-travels : (travel : Travel) (who : ℕ) (flat : Flat) → TakesUnits flat (travel_row travel who flat).world
unfolding travel_row
units-travels travel who flat = by (target_of travel (story_of who flat)) (as-many _ _ (ap units_of (traveled_writes travel who flat) ∙ ap units_in (rest_buffers _ flat)))
  where
    by : (o : Option ℕ) → TakesUnits flat (traveled_by travel who flat) → TakesUnits flat (move_ends o travel (traveled_by travel who flat)).world
    by None h = h
    by (Some n) h = h

-- and no unit comes back by any
pub units_taken : HoldsOfChanges TakesUnits
units_taken = record {
  same = λ flat. as-many (units_of flat) _ refl;
  behind = λ a b c f g. fewer (units_of a) (units_of b) (units_of c) f g;
  unit = λ left flat e. one-fewer _ left _ (units_units left flat) e;
  own = λ who f flat. as-many _ _ (ap units_in (rest_own who f flat));
  sels = λ who sels flat. as-many _ _ (ap units_in (rest_sels who sels flat));
  commits = λ who flat. as-many _ _ (ap units_of (commits_writes who flat) ∙ ap units_in (rest_buffers _ flat));
  notes = λ event flat. as-many _ _ (units_noted event flat);
  registers = units-registers;
  edits = units-edits;
  travels = units-travels;
}

module _ (R : Flat → Flat → Type 0) (kept : HoldsOfChanges R) where
  pub holds_behind : (row : Row) (next : Flat → RowEnd) (old now : Flat) → R old now → HoldsIn R next → R old (behind row next now).world
  holds_behind (Asks ask) next old now k n = kept.behind old now (next now).world k (n now)
  holds_behind (Fails text) next old now k n = k
  holds_behind GivesUp next old now k n = k

  holds-then : (row next : Flat → RowEnd) → HoldsIn R row → HoldsIn R next → HoldsIn R (λ flat. then_row (row flat) next)
  holds-then row next k n flat = holds_behind (row flat).row next flat (row flat).world (k flat) n

  holds-each : (change : Each) (who : ℕ) → HoldsIn R (λ flat. does (each_changed change who flat))
  holds-each change who flat = kept.sels who _ flat

  pub holds_leaving : (splices : List Splice) (who : ℕ) → HoldsIn R (leaving_row splices who)
  unfolding leaving_row
  holds_leaving splices who flat = holds_behind (edit_row splices who flat).row _ flat (edit_row splices who flat).world (kept.edits splices who flat) (λ w. kept.sels who _ w)

  holds-erase : (who : ℕ) → HoldsIn R (erase_row who)
  holds-erase who flat = holds_leaving _ who flat

  holds-keep : (register : Option ℕ) (who : ℕ) → HoldsIn R (keep_row register who)
  holds-keep register who = holds-then (λ flat. set_row (used register) (own_strings who flat) flat) _ (λ flat. kept.registers _ _ flat) (λ w. kept.notes _ w)

  holds-cut : (register : Option ℕ) (who : ℕ) → HoldsIn R (cut_row register who)
  holds-cut register who = holds-then (keep_row register who) (erase_row who) (holds-keep register who) (holds-erase who)

  holds-with : (strings : Option (List (List ℕ))) (name : ℕ) (row : List (List ℕ) → Flat → RowEnd) → ((given : List (List ℕ)) → HoldsIn R (row given)) → HoldsIn R (with_strings strings name row)
  holds-with None name row k flat = kept.same flat
  holds-with (Some strings) name row k flat = k strings flat

  pub holds_put : (how : Put) (register : Option ℕ) (who : ℕ) → HoldsIn R (put_row how register who)
  holds_put how register who flat = holds-with (strings_read (used register) who flat) (used register) _ (λ strings w. holds_leaving _ who w) flat

  holds-align : (who : ℕ) → HoldsIn R (align_row who)
  holds-align who flat = by (shares_line (text_of who flat) (sels_of who flat).list)
    where
      by : (t : Bool) → R flat (if t then fails SharedLine flat else edit_row (alignments (text_of who flat) (tabstop_of who flat) (sels_of who flat).list) who flat).world
      by true = kept.same flat
      by false = kept.edits _ who flat

  pub holds_edit : (what : Edit) (register : Option ℕ) (who : ℕ) → HoldsIn R (edit_done what register who)
  holds_edit edit.Cut register who = holds-cut register who
  holds_edit edit.Erase register who = holds-erase who
  holds_edit edit.Keep register who = holds-keep register who
  holds_edit edit.Replace register who = holds_put Over register who
  holds_edit (edit.Rotate direction) register who = λ flat. holds_leaving _ who flat
  holds_edit (edit.Indent how) register who = λ flat. kept.edits _ who flat
  holds_edit edit.Join register who = λ flat. kept.edits _ who flat
  holds_edit edit.Align register who = holds-align who

  holds-room : (who : ℕ) → HoldsIn R (room_row who)
  holds-room who flat = by (reaches_end (text_of who flat) (sels_of who flat).list)
    where
      by : (t : Bool) → R flat (if t then edit_row (put_in_at (length (text_of who flat)) (10 ∷ []) ∷ []) who flat else does flat).world
      by true = kept.edits _ who flat
      by false = kept.same flat

  pub holds_place : (how : InsertEntry) (register : Option ℕ) (who : ℕ) → HoldsIn R (place_row how register who)
  holds_place entry.Before register who flat = kept.sels who _ flat
  holds_place entry.Behind register who flat = holds-then (room_row who) _ (holds-room who) (λ w. kept.sels who _ w) flat
  holds_place entry.FirstLine register who flat = kept.sels who _ flat
  holds_place entry.LastNewline register who flat = kept.sels who _ flat
  holds_place entry.Cut register who flat = holds-cut register who flat
  holds_place entry.Erase register who flat = holds-erase who flat
  holds_place (entry.Open direction) register who flat = holds_leaving _ who flat

  pub holds_entry : (how : InsertEntry) (register : Option ℕ) (who : ℕ) → HoldsIn R (enter_row how register who)
  holds_entry how register who = holds-then (place_row how register who) _ (holds_place how register who) (λ w. kept.behind w (mode_entered Insert who w) _ (kept.notes _ w) (kept.own who _ (mode_entered Insert who w)))
