-- A key that came part of the way leaves the texts that stand behind some of its single changes.
use Rattle.std.proofs.Common.{◌≡◌, ℕ, [], ◌∷◌, List, map, take, refl, sym, ap, ◌∙◌, arith, inl, inr}
use Rattle.std.specs.Prelude.{◌<◌, max, Some, None}
use Rattle.std.specs.declared.option.Option.{Option}
use Rattle.std.proofs.Math.Nat.{le-max_left}
use Rattle.undo_model.specs.declared.travel.Travel.{Travel}
use Rattle.undo_model.specs.declared.travel.Travel.TheVariants.{Node}
use Rattle.undo_model.specs.Moves.{move_changes}
use Rattle.undo_model.specs.Edits.{Splice}
use Rattle.key_names.specs.declared.key.Key.{Key}
use Rattle.key_names.specs.declared.key.Base.{Base}
use Rattle.key_names.specs.declared.key.Base.TheVariants.{Char, Ret, Tab, Backspace, Del, Esc, Up, Down, Left, Right, Home, End, PageUp, PageDown, F}
use Rattle.motion_keys.specs.declared.char_moves.CharSearch.{CharSearch}
use Rattle.motion_keys.specs.declared.finding.Motion.TheVariants.{Character}
use Rattle.motion_keys.specs.declared.finding.Reach.{Reach}
use Rattle.edit_ops.specs.declared.kinds.Erase.{Erase}
use Rattle.edit_ops.specs.declared.kinds.Erase.TheVariants.{BeforeCursor, AtCursor}
use Rattle.edit_ops.specs.declared.kinds.Put.TheVariants.{BeforeCursor as PutBeforeCursor}
use Rattle.edit_ops.specs.Typing.{typed_before}
use Rattle.edit_ops.specs.Erasing.{erasures}
use Rattle.edit_ops.specs.Filling.{fillings}
use Rattle.kak_world.specs.declared.own.Mode.{Mode}
use Rattle.kak_world.specs.declared.own.Mode.TheVariants.{Normal, Insert, Prompt}
use Rattle.kak_world.specs.Flat.{Flat, shown_of, story_of, sels_of, pending_of, node_number_of}
use Rattle.kak_world.specs.Changing.{splice_changes_of, IsMoveCutIn}
use Rattle.kak_world.specs.Registers.{with_register}
use Rattle.key_rows.specs.declared.edits.Edit.{Edit}
use Rattle.key_rows.specs.declared.edits.Edit.TheVariants as edit
use Rattle.key_rows.specs.declared.entries.InsertEntry.{InsertEntry}
use Rattle.key_rows.specs.declared.entries.InsertEntry.TheVariants as entry
use Rattle.key_rows.specs.Naming.{register_named}
use Rattle.key_rows.specs.Reading.{used, own_strings, strings_read}
use Rattle.key_rows.specs.Entering.{place_row}
use Rattle.key_rows.specs.Wanting.{IsPartWay, puts_read, kept_in, IsPartOfKeep, ready_for, splices_of, IsPartOfReady, IsPartOfEdit, splices_before, IsPartOfPlace, IsPartOfEntry}
use Rattle.normal_keys.specs.declared.prefixes.Prefix.{Prefix}
use Rattle.normal_keys.specs.declared.actions.Action.{Action}
use Rattle.normal_keys.specs.declared.actions.Action.TheVariants as action
use Rattle.normal_keys.specs.declared.actions.Repeated.{Repeated}
use Rattle.normal_keys.specs.declared.actions.Repeated.TheVariants as repeated
use Rattle.normal_keys.specs.Actions.{action_of}
use Rattle.normal_keys.specs.Repeating.{once}
use Rattle.normal_keys.specs.Rows.{character_of, prefix_of, client_cleared}
use Rattle.normal_keys.specs.Wanting.{before_run, node_beside, is_part_of_once, IsPartOfAction, is_part_of_seeking, is_part_of_filling, IsPartOfAnswer, IsPartOfKey, IsPartOfNormal}
use Rattle.insert_prompt.specs.Rows.{awaiting}
use Rattle.insert_prompt.specs.Wanting.{is_part_of_typing, is_part_of_erasing, is_part_of_putting, IsPartOfBase, IsPartOfInsert, IsPartOfPrompt}
use Rattle.kak_engine.specs.Wanting.{IsPartInMode}
use Rattle.step_texts.specs.Texts.{texts_of, HasSameTexts}
use Rattle.step_texts.specs.Makings.{Making, nothing_made, splicing, traveling, once_made, editing_made, placing_made, entering_made, action_made, seeking_made, filling_made, answer_made, waited_made, normal_made, typing_made, erasing_made, putting_made, base_made, insert_made, key_made, runs_in, IsBehindSome, IsWithinMaking}
use Rattle.step_texts.proofs.TextLemmas.{texts-unchanged, edited-texts, broken-texts, texts-rest, texts-own, texts-noted, texts-left, texts-wanting}

-- none of the single changes is made
behind-none : (who : ℕ) (made : Making) (new : Flat) → HasSameTexts made.world new → IsBehindSome who made new
behind-none who made new same = record { count = 0; texts = same ∙ sym (texts-unchanged (shown_of who made.world) (texts_of made.world)) }

pub within-none : (who : ℕ) (made : Making) (new : Flat) → HasSameTexts made.world new → IsWithinMaking who made new
within-none who made new same = inl (behind-none who made new same)

pub within-nothing : (who : ℕ) (flat new : Flat) → HasSameTexts flat new → IsWithinMaking who (nothing_made flat) new
within-nothing who flat new e = within-none who (nothing_made flat) new e

pub within-same : (who : ℕ) (flat new : Flat) → new ≡ flat → IsWithinMaking who (nothing_made flat) new
within-same who flat new e = within-nothing who flat new (ap texts_of e)

-- replacements
behind-part : (splices : List Splice) (who : ℕ) (old ready new : Flat) → HasSameTexts old ready → IsPartWay splices who old ready new → IsBehindSome who (splicing splices who ready) new
behind-part splices who old ready new same (inl e) = behind-none who (splicing splices who ready) new (ap texts_of e ∙ sym same)
behind-part splices who old ready new same (inr (inl e)) = behind-none who (splicing splices who ready) new (ap texts_of e)
behind-part splices who old ready new same (inr (inr some)) =
    record { count = some.made; texts = ap texts_of some.is ∙ edited-texts (shown_of who ready) who (take some.made (splice_changes_of splices who ready)) ready }

within-part : (splices : List Splice) (who : ℕ) (flat new : Flat) → IsPartWay splices who flat flat new → IsWithinMaking who (splicing splices who flat) new
within-part splices who flat new p = inl (behind-part splices who flat flat new refl p)

-- a move
within-move : (travel : Travel) (who : ℕ) (old new : Flat) → IsMoveCutIn who travel old new → IsWithinMaking who (traveling travel who old) new
within-move travel who old new (inl some) =
    inl (record { count = some.made; texts = ap texts_of some.is ∙ broken-texts (shown_of who old) (take some.made (move_changes travel (story_of who old))) old })
within-move travel who old new (inr whole) = inr (ap texts_of whole)

-- one run
within-once : (what : Repeated) (register : Option ℕ) (who : ℕ) (old new : Flat) → is_part_of_once what register who old new → IsWithinMaking who (once_made what register who old) new
within-once (repeated.Moves motion reach) register who old new p = within-same who old new p
within-once (repeated.TurnsMain direction) register who old new p = within-same who old new p
within-once (repeated.Travels travel) register who old new p = within-move travel who old new p
within-once (repeated.GoesToNode direction) register who old new p = within-move (Node (node_beside direction (node_number_of who old))) who old new p
within-once (repeated.Puts how) register who old new p = within-part (puts_read how (strings_read (used register) who old) who old) who old new p

-- a register that is set first leaves the texts
kept-texts : (register : Option ℕ) (who : ℕ) (flat : Flat) → HasSameTexts flat (kept_in register who flat)
kept-texts register who flat = texts-noted _ (with_register (used register) (own_strings who flat) flat) ∙ texts-rest _ flat

ready-texts : (how : Edit) (register : Option ℕ) (who : ℕ) (flat : Flat) → HasSameTexts flat (ready_for how register who flat)
ready-texts edit.Cut register who flat = kept-texts register who flat
ready-texts edit.Erase register who flat = refl
ready-texts edit.Keep register who flat = refl
ready-texts edit.Replace register who flat = refl
ready-texts (edit.Rotate direction) register who flat = refl
ready-texts (edit.Indent how) register who flat = refl
ready-texts edit.Join register who flat = refl
ready-texts edit.Align register who flat = refl

keeping-texts : (register : Option ℕ) (who : ℕ) (old new : Flat) → IsPartOfKeep register who old new → HasSameTexts old new
keeping-texts register who old new (inl e) = ap texts_of e
keeping-texts register who old new (inr w) = texts-wanting (kept_in register who old) new w ∙ kept-texts register who old

-- an edit
behind-ready : (how : Edit) (register : Option ℕ) (who : ℕ) (old new : Flat) → IsPartOfReady how register who old new → IsBehindSome who (editing_made how register who old) new
behind-ready how register who old new p =
    let ready : Flat = ready_for how register who old in behind-part (splices_of how register who ready) who old ready new (ready-texts how register who old) p

behind-keep : (how : Edit) (register : Option ℕ) (who : ℕ) (old new : Flat) → IsPartOfKeep register who old new → IsBehindSome who (editing_made how register who old) new
behind-keep how register who old new p =
    behind-none who (editing_made how register who old) new (keeping-texts register who old new p ∙ sym (ready-texts how register who old))

behind-edit : (how : Edit) (register : Option ℕ) (who : ℕ) (old new : Flat) → IsPartOfEdit how register who old new → IsBehindSome who (editing_made how register who old) new
behind-edit edit.Cut register who old new (inl p) = behind-keep edit.Cut register who old new p
behind-edit edit.Cut register who old new (inr p) = behind-ready edit.Cut register who old new p
behind-edit edit.Erase register who old new p = behind-ready edit.Erase register who old new p
behind-edit edit.Keep register who old new p = behind-keep edit.Keep register who old new p
behind-edit edit.Replace register who old new p = behind-ready edit.Replace register who old new p
behind-edit (edit.Rotate direction) register who old new p = behind-ready (edit.Rotate direction) register who old new p
behind-edit (edit.Indent how) register who old new p = behind-ready (edit.Indent how) register who old new p
behind-edit edit.Join register who old new p = behind-ready edit.Join register who old new p
behind-edit edit.Align register who old new p = behind-ready edit.Align register who old new p

-- the way into insert mode
behind-place : (how : InsertEntry) (register : Option ℕ) (who : ℕ) (old new : Flat) → IsPartOfPlace how register who old new → IsBehindSome who (placing_made how register who old) new
behind-place entry.Before register who old new p = behind-part (splices_before entry.Before who old) who old old new refl p
behind-place entry.Behind register who old new p = behind-part (splices_before entry.Behind who old) who old old new refl p
behind-place entry.FirstLine register who old new p = behind-part (splices_before entry.FirstLine who old) who old old new refl p
behind-place entry.LastNewline register who old new p = behind-part (splices_before entry.LastNewline who old) who old old new refl p
behind-place entry.Cut register who old new p = behind-edit edit.Cut register who old new p
behind-place entry.Erase register who old new p = behind-part (splices_before entry.Erase who old) who old old new refl p
behind-place (entry.Open direction) register who old new p = behind-part (splices_before (entry.Open direction) who old) who old old new refl p

with-whole : (who : ℕ) (made : Making) (whole new : Flat) → IsBehindSome who made new → IsBehindSome who (record made { whole = whole }) new
with-whole who made whole new some = record { count = some.count; texts = some.texts }

within-entry : (how : InsertEntry) (register : Option ℕ) (who : ℕ) (old new : Flat) → IsPartOfEntry how register who old new → IsWithinMaking who (entering_made how register who old) new
within-entry how register who old new (inl p) = inl (with-whole who (placing_made how register who old) (place_row how register who old).world new (behind-place how register who old new p))
within-entry how register who old new (inr w) = inr (ap texts_of w.1)

-- behind some of so many runs
pub record WithinRuns (most : ℕ) (made : ℕ → Making) (who : ℕ) (new : Flat) : Type 0 where
  pub runs : ℕ
  pub few : runs < most
  pub within : IsWithinMaking who (made runs) new

some-run : (count : ℕ) → 0 < max 1 count
some-run count = omega (arith, le-max_left 1 count)

no-run : (count : ℕ) (made : ℕ → Making) (who : ℕ) (new : Flat) → IsWithinMaking who (made 0) new → WithinRuns (max 1 count) made who new
no-run count made who new w = record { runs = 0; few = some-run count; within = w }

pub at-once : (made : ℕ → Making) (who : ℕ) (new : Flat) → IsWithinMaking who (made 0) new → WithinRuns 1 made who new
at-once made who new w = record { runs = 0; few = omega arith; within = w }

within-action : (a : Action) (prefix : Prefix) (who : ℕ) (old new : Flat) → IsPartOfAction a prefix who old new → WithinRuns (max 1 prefix.count) (λ runs. action_made runs a prefix who old) who new
within-action action.Nothing prefix who old new p = no-run prefix.count _ who new (within-same who old new p)
within-action (action.Digit digit) prefix who old new p = no-run prefix.count _ who new (within-same who old new p)
within-action action.ChoosesRegister prefix who old new p = no-run prefix.count _ who new (within-same who old new p)
within-action (action.Repeats what) prefix who old new p =
    record { runs = p.made; few = p.few; within = within-once what prefix.register who (before_run p.made (once what prefix.register who) old) new p.is }
within-action (action.MovesOnce motion reach) prefix who old new p = no-run prefix.count _ who new (within-same who old new p)
within-action (action.Seeks search reach) prefix who old new p = no-run prefix.count _ who new (within-same who old new p)
within-action (action.Goes reach) prefix who old new p = no-run prefix.count _ who new (within-same who old new p)
within-action (action.SelectsObject extent) prefix who old new p = no-run prefix.count _ who new (within-same who old new p)
within-action (action.Shapes shape) prefix who old new p = no-run prefix.count _ who new (within-same who old new p)
within-action (action.Lists change) prefix who old new p = no-run prefix.count _ who new (within-same who old new p)
within-action (action.Edits how) prefix who old new p = no-run prefix.count _ who new (inl (behind-edit how prefix.register who old new p))
within-action action.Fills prefix who old new p = no-run prefix.count _ who new (within-same who old new p)
within-action (action.Inserts how) prefix who old new p = no-run prefix.count _ who new (within-entry how prefix.register who old new p)
within-action (action.Prompts purpose) prefix who old new p = no-run prefix.count _ who new (within-same who old new p)
within-action (action.StepsToMatch direction) prefix who old new p = no-run prefix.count _ who new (within-same who old new p)
within-action (action.AddsMatch direction) prefix who old new p = no-run prefix.count _ who new (within-same who old new p)
within-action (action.Remembers bounds) prefix who old new p = no-run prefix.count _ who new (within-same who old new p)
within-action action.Records prefix who old new p = no-run prefix.count _ who new (within-nothing who old new (ap texts_of p ∙ texts-own who _ old))
within-action action.EndsRecording prefix who old new p = no-run prefix.count _ who new (within-nothing who old new (ap texts_of p ∙ texts-own who _ old))
within-action action.Plays prefix who old new p = no-run prefix.count _ who new (within-same who old new p)

within-seeking : (search : CharSearch) (reach : Reach) (count who : ℕ) (c : Option ℕ) (old new : Flat) → is_part_of_seeking search reach count who c old new → WithinRuns (max 1 count) (λ runs. seeking_made runs search reach who c old) who new
within-seeking search reach count who None old new p = no-run count _ who new (within-same who old new p)
within-seeking search reach count who (Some c) old new p =
    record { runs = p.made; few = p.few; within = within-same who (before_run p.made (once (repeated.Moves (Character search c) reach) None who) old) new p.is }

within-filling : (who : ℕ) (c : Option ℕ) (old new : Flat) → is_part_of_filling who c old new → IsWithinMaking who (filling_made who c old) new
within-filling who None old new p = within-same who old new p
within-filling who (Some c) old new p = within-part (fillings c (sels_of who old).list) who old new p

within-answer : (a : Action) (key : Key) (count who : ℕ) (old new : Flat) → IsPartOfAnswer a key count who old new → WithinRuns (max 1 count) (λ runs. answer_made runs a key who old) who new
within-answer action.Nothing key count who old new p = no-run count _ who new (within-same who old new p)
within-answer (action.Digit digit) key count who old new p = no-run count _ who new (within-same who old new p)
within-answer action.ChoosesRegister key count who old new p = no-run count _ who new (within-same who old new p)
within-answer (action.Repeats what) key count who old new p = no-run count _ who new (within-same who old new p)
within-answer (action.MovesOnce motion reach) key count who old new p = no-run count _ who new (within-same who old new p)
within-answer (action.Seeks search reach) key count who old new p = within-seeking search reach count who (character_of key) old new p
within-answer (action.Goes reach) key count who old new p = no-run count _ who new (within-same who old new p)
within-answer (action.SelectsObject extent) key count who old new p = no-run count _ who new (within-same who old new p)
within-answer (action.Shapes shape) key count who old new p = no-run count _ who new (within-same who old new p)
within-answer (action.Lists change) key count who old new p = no-run count _ who new (within-same who old new p)
within-answer (action.Edits how) key count who old new p = no-run count _ who new (within-same who old new p)
within-answer action.Fills key count who old new p = no-run count _ who new (within-filling who (character_of key) old new p)
within-answer (action.Inserts how) key count who old new p = no-run count _ who new (within-same who old new p)
within-answer (action.Prompts purpose) key count who old new p = no-run count _ who new (within-same who old new p)
within-answer (action.StepsToMatch direction) key count who old new p = no-run count _ who new (within-same who old new p)
within-answer (action.AddsMatch direction) key count who old new p = no-run count _ who new (within-same who old new p)
within-answer (action.Remembers bounds) key count who old new p = no-run count _ who new (within-same who old new p)
within-answer action.Records key count who old new p = no-run count _ who new (within-same who old new p)
within-answer action.EndsRecording key count who old new p = no-run count _ who new (within-same who old new p)
within-answer action.Plays key count who old new p = no-run count _ who new (within-same who old new p)

within-waited : (waits : Option Key) (key : Key) (prefix : Prefix) (who : ℕ) (old new : Flat) → IsPartOfKey waits key prefix who old new → WithinRuns (max 1 prefix.count) (λ runs. waited_made runs waits key prefix who old) who new
within-waited None key prefix who old new p = within-action (action_of key) prefix who old new p
within-waited (Some waits) key prefix who old new p = within-answer (action_of waits) key prefix.count who old new p

within-normal : (key : Key) (who : ℕ) (old new : Flat) → IsPartOfNormal key who old new → WithinRuns (runs_in Normal who old) (λ runs. normal_made runs key who old) who new
within-normal key who old new p = within-waited (pending_of who old) key (prefix_of who old) who (client_cleared who old) new p

-- insert mode
within-putting : (name : Option ℕ) (who : ℕ) (old new : Flat) → is_part_of_putting name who old new → IsWithinMaking who (putting_made name who old) new
within-putting None who old new p = within-same who old new p
within-putting (Some name) who old new p = within-part (puts_read PutBeforeCursor (strings_read name who old) who old) who old new p

within-typing : (c who : ℕ) (old new : Flat) → is_part_of_typing c who old new → IsWithinMaking who (typing_made c who old) new
within-typing c who old new p = within-part (map (typed_before (c ∷ [])) (sels_of who old).list) who old new p

within-erasing : (what : Erase) (who : ℕ) (old new : Flat) → is_part_of_erasing what who old new → IsWithinMaking who (erasing_made what who old) new
within-erasing what who old new p = within-part (erasures what (sels_of who old).list) who old new p

within-escape : (who : ℕ) (old new : Flat) → IsPartOfBase Esc who old new → IsWithinMaking who (nothing_made old) new
within-escape who old new (inl e) = within-same who old new e
within-escape who old new (inr e) = within-nothing who old new (ap texts_of e ∙ texts-left Insert who old)

within-base : (base : Base) (who : ℕ) (old new : Flat) → IsPartOfBase base who old new → IsWithinMaking who (base_made base who old) new
within-base (Char c) who old new p = within-typing c who old new p
within-base Ret who old new p = within-typing 10 who old new p
within-base Tab who old new p = within-typing 9 who old new p
within-base Esc who old new p = within-escape who old new p
within-base Backspace who old new p = within-erasing BeforeCursor who old new p
within-base Del who old new p = within-erasing AtCursor who old new p
within-base Up who old new p = within-same who old new p
within-base Down who old new p = within-same who old new p
within-base Left who old new p = within-same who old new p
within-base Right who old new p = within-same who old new p
within-base Home who old new p = within-same who old new p
within-base End who old new p = within-same who old new p
within-base PageUp who old new p = within-same who old new p
within-base PageDown who old new p = within-same who old new p
within-base (F n) who old new p = within-same who old new p

within-insert : (waits : Option Key) (key : Key) (who : ℕ) (old new : Flat) → IsPartOfInsert waits key who old new → IsWithinMaking who (insert_made waits key who old) new
within-insert None key who old new p = within-base key.base who old new p
within-insert (Some waits) key who old new p = within-putting (register_named key) who (awaiting None who old) new p

-- a prompt: a register may have been set
within-prompt : (who : ℕ) (old new : Flat) → IsPartOfPrompt who old new → IsWithinMaking who (nothing_made old) new
within-prompt who old new (inl e) = within-same who old new e
within-prompt who old new (inr w) = within-nothing who old new (ap texts_of w.1 ∙ texts-rest _ old)

pub within-key : (mode : Mode) (key : Key) (who : ℕ) (old new : Flat) → IsPartInMode mode key who old new → WithinRuns (runs_in mode who old) (λ runs. key_made runs mode key who old) who new
within-key Normal key who old new p = within-normal key who old new p
within-key Insert key who old new p = at-once _ who new (within-insert (pending_of who old) key who old new p)
within-key Prompt key who old new p = at-once _ who new (within-prompt who old new p)
