-- What each change of the world leaves so, each key of insert mode and of a prompt leaves so.
use Rattle.std.proofs.Common.{ℕ, Bool, true, false, List, [], ◌∷◌}
use Rattle.std.specs.Prelude.{if◌then◌else◌, not, ◌==◌, ◌&&◌, ◌||◌, None, Some}
use Rattle.std.specs.declared.option.Option.{Option}
use Rattle.key_names.specs.declared.key.Key.{Key}
use Rattle.key_names.specs.declared.key.Base.{Base}
use Rattle.key_names.specs.declared.key.Base.TheVariants.{Char, Ret, Tab, Backspace, Del, Left, Right, Up, Down, Home, End, Esc}
use Rattle.key_names.specs.Modified.{is_modified}
use Rattle.edit_line.specs.Halves.{whole}
use Rattle.kak_world.specs.declared.purpose.Purpose.{Purpose}
use Rattle.kak_world.specs.declared.purpose.Purpose.TheVariants.{Commands, Pattern}
use Rattle.kak_world.specs.declared.purpose.Use.{Use}
use Rattle.kak_world.specs.Flat.{Flat, pending_of, is_appending, purpose_of, prompt_of}
use Rattle.kak_world.specs.declared.own.Mode.TheVariants.{Insert, Prompt}
use Rattle.kak_world.specs.Events.{mode_left}
use Rattle.kak_world.specs.Changing.{commits}
use Rattle.kak_world.specs.Rows.{RowEnd, does}
use Rattle.key_rows.specs.declared.each.Each.TheVariants as each
use Rattle.key_rows.specs.declared.shapes.Shape.TheVariants.{OneBack}
use Rattle.key_rows.specs.Each.{each_changed}
use Rattle.key_rows.specs.Naming.{register_named}
use Rattle.key_rows.specs.Reading.{strings_read}
use Rattle.key_rows.specs.Edits.{with_strings}
use Rattle.key_rows.proofs.RowLaws.{HoldsOfChanges, holds_behind}
use Rattle.insert_prompt.specs.Rows.{typed, character_row, taken_back, leave_insert, insert_base, awaiting, insert_control, insert_first, put_named, insert_pending, row_insert, leave_prompt, typed_kept, commands_accepted, pattern_typed, accepted_as, prompt_base, prompt_control, prompt_first, prompt_named, prompt_pending, row_prompt}

module _ (R : Flat → Flat → Type 0) (kept : HoldsOfChanges R) where
  holds-chosen : (t : Bool) (flat : Flat) (a b : RowEnd) → R flat a.world → R flat b.world → R flat (if t then a else b).world
  holds-chosen true flat a b f g = f
  holds-chosen false flat a b f g = g

  holds-typed : (c who : ℕ) (flat : Flat) → R flat (character_row c who flat).world
  holds-typed c who flat = holds_behind R kept (typed (c ∷ []) who flat).row _ flat (typed (c ∷ []) who flat).world (kept.edits _ who flat) (λ w. kept.notes _ w)

  holds-leave : (who : ℕ) (flat : Flat) → R flat (leave_insert who flat)
  holds-leave who flat =
      let w : Flat = mode_left Insert who flat in
      kept.behind flat w (leave_insert who flat) (kept.notes _ flat) (kept.behind w (taken_back who w) (leave_insert who flat) (by w (is_appending who w)) (kept.own who _ (taken_back who w)))
    where
      by : (w : Flat) (t : Bool) → R w (if t then each_changed (each.Reshaped OneBack) who w else w)
      by w true = kept.sels who _ w
      by w false = kept.same w

  holds-left : (who : ℕ) (flat : Flat) → R flat (leave_prompt who flat)
  holds-left who flat = kept.behind flat (mode_left Prompt who flat) (leave_prompt who flat) (kept.notes _ flat) (kept.own who _ (mode_left Prompt who flat))

  holds-insert_base : (base : Base) (who : ℕ) (flat : Flat) → R flat (insert_base base who flat).world
  holds-insert_base (Char c) who flat = holds-typed c who flat
  holds-insert_base Ret who flat = holds-typed 10 who flat
  holds-insert_base Tab who flat = holds-typed 9 who flat
  holds-insert_base Backspace who flat = kept.edits _ who flat
  holds-insert_base Del who flat = kept.edits _ who flat
  holds-insert_base Left who flat = kept.sels who _ flat
  holds-insert_base Right who flat = kept.sels who _ flat
  holds-insert_base Up who flat = kept.sels who _ flat
  holds-insert_base Down who flat = kept.sels who _ flat
  holds-insert_base Home who flat = kept.sels who _ flat
  holds-insert_base End who flat = kept.sels who _ flat
  holds-insert_base Esc who flat = holds-leave who flat
  holds-insert_base _ who flat = kept.same flat

  holds-insert_control : (base : Base) (key : Key) (who : ℕ) (flat : Flat) → R flat (insert_control base key who flat).world
  holds-insert_control (Char c) key who flat =
      holds-chosen (c == 117) flat (does (commits who flat)) (if c == 114 then does (awaiting (Some key) who flat) else does flat) (kept.commits who flat)
      (holds-chosen (c == 114) flat (does (awaiting (Some key) who flat)) (does flat) (kept.own who _ flat) (kept.same flat))
  holds-insert_control _ key who flat = kept.same flat

  holds-first : (key : Key) (who : ℕ) (flat : Flat) → R flat (insert_first key who flat).world
  holds-first key who flat =
      holds-chosen (key.control && not (key.alt || key.shift)) flat (insert_control key.base key who flat) (if is_modified key then does flat else insert_base key.base who flat)
      (holds-insert_control key.base key who flat)
      (holds-chosen (is_modified key) flat (does flat) (insert_base key.base who flat) (kept.same flat) (holds-insert_base key.base who flat))

  holds-with : (strings : Option (List (List ℕ))) (name : ℕ) (row : List (List ℕ) → Flat → RowEnd) (flat : Flat) → ((given : List (List ℕ)) → R flat (row given flat).world) → R flat (with_strings strings name row flat).world
  holds-with None name row flat k = kept.same flat
  holds-with (Some strings) name row flat k = k strings

  holds-named : (name : Option ℕ) (who : ℕ) (flat : Flat) → R flat (put_named name who flat).world
  holds-named None who flat = kept.same flat
  holds-named (Some name) who flat = holds-with (strings_read name who flat) name _ flat (λ strings. kept.edits _ who flat)

  holds-pending : (waits : Option Key) (key : Key) (who : ℕ) (flat : Flat) → R flat (insert_pending waits key who flat).world
  holds-pending None key who flat = holds-first key who flat
  holds-pending (Some first) key who flat =
      kept.behind flat (awaiting None who flat) (put_named (register_named key) who (awaiting None who flat)).world (kept.own who _ flat) (holds-named (register_named key) who (awaiting None who flat))

  pub holds_insert : (key : Key) (who : ℕ) (flat : Flat) → R flat (row_insert key who flat).world
  unfolding row_insert
  holds_insert key who flat = holds-pending (pending_of who flat) key who flat

  holds-typed_kept : (name who : ℕ) (flat : Flat) → R flat (typed_kept name who flat).world
  holds-typed_kept name who flat = kept.behind flat (leave_prompt who flat) (typed_kept name who flat).world (holds-left who flat) (kept.registers _ _ (leave_prompt who flat))

  holds-commands : (who : ℕ) (flat : Flat) → R flat (commands_accepted who flat).world
  holds-commands who flat = holds_behind R kept (typed_kept 58 who flat).row _ flat (typed_kept 58 who flat).world (holds-typed_kept 58 who flat) (λ w. kept.same w)

  holds-pattern : (pattern : List ℕ) (wanted : Use) (who : ℕ) (flat : Flat) → R flat (pattern_typed pattern wanted who flat).world
  holds-pattern [] wanted who flat = holds-left who flat
  holds-pattern (c ∷ cs) wanted who flat = holds_behind R kept (typed_kept 47 who flat).row _ flat (typed_kept 47 who flat).world (holds-typed_kept 47 who flat) (λ w. kept.same w)

  holds-accepted : (purpose : Purpose) (who : ℕ) (flat : Flat) → R flat (accepted_as purpose who flat).world
  holds-accepted Commands who flat = holds-commands who flat
  holds-accepted (Pattern wanted) who flat = holds-pattern (whole (prompt_of who flat)) wanted who flat

  holds-prompt_base : (base : Base) (who : ℕ) (flat : Flat) → R flat (prompt_base base who flat).world
  holds-prompt_base (Char c) who flat = kept.own who _ flat
  holds-prompt_base Ret who flat = holds-accepted (purpose_of who flat) who flat
  holds-prompt_base Esc who flat = holds-left who flat
  holds-prompt_base _ who flat = kept.own who _ flat

  holds-prompt_control : (base : Base) (key : Key) (who : ℕ) (flat : Flat) → R flat (prompt_control base key who flat).world
  holds-prompt_control (Char c) key who flat = holds-chosen (c == 114) flat (does (awaiting (Some key) who flat)) (does flat) (kept.own who _ flat) (kept.same flat)
  holds-prompt_control _ key who flat = kept.same flat

  holds-prompt_first : (key : Key) (who : ℕ) (flat : Flat) → R flat (prompt_first key who flat).world
  holds-prompt_first key who flat =
      holds-chosen (key.control && not (key.alt || key.shift)) flat (prompt_control key.base key who flat) (if is_modified key then does flat else prompt_base key.base who flat)
      (holds-prompt_control key.base key who flat)
      (holds-chosen (is_modified key) flat (does flat) (prompt_base key.base who flat) (kept.same flat) (holds-prompt_base key.base who flat))

  holds-prompt_named : (name : Option ℕ) (who : ℕ) (flat : Flat) → R flat (prompt_named name who flat).world
  holds-prompt_named None who flat = kept.same flat
  holds-prompt_named (Some name) who flat = holds-with (strings_read name who flat) name _ flat (λ strings. kept.own who _ flat)

  holds-prompt_pending : (waits : Option Key) (key : Key) (who : ℕ) (flat : Flat) → R flat (prompt_pending waits key who flat).world
  holds-prompt_pending None key who flat = holds-prompt_first key who flat
  holds-prompt_pending (Some first) key who flat =
      kept.behind flat (awaiting None who flat) (prompt_named (register_named key) who (awaiting None who flat)).world (kept.own who _ flat) (holds-prompt_named (register_named key) who (awaiting None who flat))

  pub holds_prompt : (key : Key) (who : ℕ) (flat : Flat) → R flat (row_prompt key who flat).world
  unfolding row_prompt
  holds_prompt key who flat = holds-prompt_pending (pending_of who flat) key who flat
