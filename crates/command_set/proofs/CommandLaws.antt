-- Commands and what is made of files take no units, and keep those that have joined.
use Rattle.std.proofs.Common.{◌≡◌, ◌<◌, ◌+◌, ◌*◌, ℕ, suc, Bool, true, false, List, [], ◌∷◌, refl, sym, ap, ◌∙◌, arith}
use Rattle.std.specs.Prelude.{if◌then◌else◌, is_some, unwrap_or, slice_index_or, chars, Some, None, Ok, Err}
use Rattle.std.specs.declared.option.Option.{Option}
use Rattle.std.specs.declared.result.Result.{Result}
use Rattle.tables.proofs.TableLemmas.{by_test}
use Rattle.kak_words.specs.declared.parts.Command.{Command}
use Rattle.kak_words.specs.Expanding.{expanded}
use Rattle.command_forms.specs.declared.order.Order.{Order}
use Rattle.command_forms.specs.declared.order.Order.TheVariants as order
use Rattle.command_forms.specs.declared.error.OrderError.{OrderError}
use Rattle.command_forms.specs.declared.places.Columns.{Columns}
use Rattle.command_forms.specs.declared.places.Described.{Described}
use Rattle.command_forms.specs.declared.names.CommandName.{CommandName}
use Rattle.command_forms.specs.Names.{named as command_of}
use Rattle.command_forms.specs.Orders.{order_after}
use Rattle.kak_registers.specs.declared.names.RegisterError.{RegisterError}
use Rattle.kak_registers.specs.Names.{named}
use Rattle.kak_registers.specs.Refusals.{register_refusal}
use Rattle.face_texts.specs.declared.text.FaceText.{FaceText}
use Rattle.face_texts.specs.declared.rows.NamedFace.{NamedFace}
use Rattle.face_texts.specs.Tables.{face_set_in, word_text}
use Rattle.scope_options.specs.declared.scope.Scope.{Scope}
use Rattle.scope_tables.specs.declared.definitions.Definition.{Definition}
use Rattle.scope_tables.specs.Definitions.{definition_of}
use Rattle.scope_options.specs.declared.setting.Setting.{Setting}
use Rattle.scope_options.specs.declared.options.OptionError.{OptionError}
use Rattle.scope_options.specs.Changes.{declare_in, option_set_in, option_unset_in}
use Rattle.kak_world.specs.Flat.{Buffer, Flat, shown_of, units_of, options_of, faces_of, tables_of, status_of, is_there, with_own, with_sels, with_options, with_faces}
use Rattle.kak_world.specs.Registers.{set_unless, set_row}
use Rattle.kak_world.specs.Dropping.{KeepsJoined}
use Rattle.kak_world.specs.Showing.{has_all_buffers, shows}
use Rattle.kak_world.specs.Saving.{is_named, buffer_number_from, number_named, unsaved_names, others_leave}
use Rattle.kak_world.specs.declared.ask.Ask.TheVariants.{Nothing}
use Rattle.kak_world.specs.Rows.{Row, RowEnd, Asks, Fails, GivesUp, does}
use Rattle.kak_world.proofs.WorldLaws.{units_in, rest_own, rest_rest, rest_sels}
use Rattle.kak_world.proofs.KeepingLaws.{keeps_own, keeps_rest, keeps_sels, keeps_set_row}
use Rattle.kak_world.proofs.ShownLaws.{rest_shows}
use Rattle.kak_world.proofs.SavingLemmas.{named-some}
use Rattle.kak_world.proofs.JoinedLemmas.{joined_kept, stays_shows}
use Rattle.command_set.specs.Buffers.{shown_if, show_row, edited_by_number, edit_named_row, dropped_unless, drop_at, drop_if, drop_row, quit_unless, quit_row, unsaved_in}
use Rattle.command_set.specs.Options.{scope_named, is_declared, options_row, set_scoped, option_modified, unset_scoped}
use Rattle.kak_world.specs.declared.own.StatusText.TheVariants.{Said}
use Rattle.kak_world.specs.Events.{displayed, register_modified}
use Rattle.key_rows.specs.Sequence.{behind, then_row}
use Rattle.key_rows.specs.Reading.{joined_text}
use Rattle.command_set.specs.Registers.{register_set, is_refusal, echo_row}
use Rattle.command_set.specs.Selecting.{described_selected}
use Rattle.command_set.specs.Expanding.{table_of}
use Rattle.command_set.specs.Running.{call_row}
use Rattle.command_set.specs.Rows.{row_order, row_read_order, meant, row_named, row_words, row_expanded, row_command}
use Rattle.command_set.specs.Boxes.{info_row}
use Rattle.command_set.specs.Faces.{faces_row, face_read_row, set_face_row, unset_face_row}
use Rattle.command_set.specs.Laws.{IsTame}
use Rattle.command_set.proofs.PaintingLaws.{tame-same, tame-if, tame-told, tame-highlighter}
use Rattle.command_set.proofs.TableLaws.{tame-table}
use Rattle.command_set.proofs.NotingLaws.{tame_noted}

-- a number that is found by a name is a buffer's
named-from : (k : ℕ) (name : List ℕ) (bs : List (Option Buffer)) (n : ℕ) → buffer_number_from k name bs ≡ Some n → (m : ℕ) × (n ≡ k + m) × (is_there m bs ≡ true)
named-from k name [] n e = absurd (let no : is_some (Some n) ≡ false = sym (ap is_some e) in cc)
named-from k name (b ∷ bs) n e =
    by_test (λ t. t ≡ is_named name b → (if t then Some k else buffer_number_from (k + 1) name bs) ≡ Some n → (m : ℕ) × (n ≡ k + m) × (is_there m (b ∷ bs) ≡ true)) (is_named name b)
    (λ _ s h. (0, (let same : k ≡ n = ap (λ o. unwrap_or o 0) h in omega arith), named-some name b (sym s)))
    (λ _ _ h. let later = named-from (k + 1) name bs n h in (suc later.0, omega (arith, later.1), later.2))
    refl e

named-there : (name : List ℕ) (flat : Flat) (n : ℕ) → number_named name flat ≡ Some n → is_there n flat.buffers ≡ true
named-there name flat n e =
    let found = named-from 0 name flat.buffers n e in
    ap (λ k. is_there k flat.buffers) (let same : n ≡ found.0 = omega (arith, found.1) in same) ∙ found.2

tame-shows : (who n : ℕ) (flat : Flat) → is_there n flat.buffers ≡ true → IsTame flat (does (displayed who (shows who n flat)))
tame-shows who n flat t = tame_noted _ flat (shows who n flat) (Asks Nothing) (Asks Nothing) (record { units = ap units_in (rest_shows who n flat); keeps = stays_shows who n flat t })

tame-show : (name : List ℕ) (who : ℕ) (flat : Flat) → IsTame flat (show_row name who flat)
tame-show name who flat = by (number_named (chars name) flat) refl
  where
    by : (o : Option ℕ) → number_named (chars name) flat ≡ o → IsTame flat (shown_if o name who flat)
    by None e = tame-same flat _
    by (Some n) e = tame-shows who n flat (named-there (chars name) flat n e)

tame-edit : (name : List ℕ) (who : ℕ) (flat : Flat) → IsTame flat (edit_named_row name who flat)
tame-edit name who flat = by (number_named (chars name) flat) refl
  where
    by : (o : Option ℕ) → number_named (chars name) flat ≡ o → IsTame flat (edited_by_number o name who flat)
    by None e = tame-if flat (has_all_buffers flat) _ _ (tame-same flat _) (tame-same flat _)
    by (Some n) e = tame-shows who n flat (named-there (chars name) flat n e)

tame-dropped : (o : Option (List ℕ)) (n : ℕ) (flat : Flat) → IsTame flat (dropped_unless o n flat)
tame-dropped None n flat = tame_noted _ flat flat (Asks Nothing) _ (tame-same flat _)
tame-dropped (Some name) n flat = tame-same flat _

tame-drop_at : (forced : Bool) (n : ℕ) (flat : Flat) → IsTame flat (drop_at forced n flat)
tame-drop_at forced n flat = tame-dropped (if forced then None else unsaved_in (slice_index_or flat.buffers n None)) n flat

tame-drop_if : (o : Option ℕ) (forced : Bool) (name : List ℕ) (flat : Flat) → IsTame flat (drop_if o forced name flat)
tame-drop_if None forced name flat = tame-same flat _
tame-drop_if (Some n) forced name flat = tame-drop_at forced n flat

tame-drop : (forced : Bool) (o : Option (List ℕ)) (who : ℕ) (flat : Flat) → IsTame flat (drop_row forced o who flat)
tame-drop forced None who flat = tame-drop_at forced (shown_of who flat) flat
tame-drop forced (Some name) who flat = tame-drop_if (number_named (chars name) flat) forced name flat

-- a client leaves
tame-quit_unless : (o : Option (List ℕ)) (flat : Flat) → IsTame flat (quit_unless o flat)
tame-quit_unless None flat = tame-same flat _
tame-quit_unless (Some names) flat = tame-same flat _

tame-quit : (who : ℕ) (flat : Flat) → IsTame flat (quit_row who flat)
tame-quit who flat = tame-if flat (others_leave who flat) _ _ (tame-quit_unless (unsaved_names flat) flat) (tame-same flat _)

-- options
tame-options : (name word : List ℕ) (r : Result (List Setting) OptionError) (flat : Flat) → IsTame flat (options_row name word r flat)
tame-options name word (Ok rows) flat = record { units = ap units_in (rest_rest _ flat); keeps = joined_kept flat (with_options rows flat) (keeps_rest _ flat (λ r. refl)) }
tame-options name word (Err e) flat = tame-same flat _

-- a row that goes on with what hooks are to hear, where it is done
tame-then : (flat : Flat) (end : RowEnd) (next : Flat → RowEnd) → IsTame flat end → ((w : Flat) → IsTame flat (does w) → IsTame flat (next w)) → IsTame flat (then_row end next)
tame-then flat end next t h = by end.row end.world (record { units = t.units; keeps = t.keeps })
  where
    by : (row : Row) (w : Flat) → IsTame flat (does w) → IsTame flat (behind row next w)
    by (Asks ask) w k = h w k
    by (Fails text) w k = record { units = k.units; keeps = k.keeps }
    by GivesUp w k = record { units = k.units; keeps = k.keeps }

tame-set_scoped : (o : Option Scope) (add : Bool) (word name : List ℕ) (values : List (List ℕ)) (who : ℕ) (flat : Flat) → IsTame flat (set_scoped o add word name values who flat)
tame-set_scoped None add word name values who flat = tame-same flat _
tame-set_scoped (Some scope) add word name values who flat =
    tame-then flat (options_row name word (option_set_in scope name values add (options_of flat)) flat) (λ w. does (option_modified scope name who w))
    (tame-options name word (option_set_in scope name values add (options_of flat)) flat) (λ w k. tame_noted _ flat w (Asks Nothing) (Asks Nothing) k)

tame-unset_scoped : (o : Option Scope) (word name : List ℕ) (flat : Flat) → IsTame flat (unset_scoped o word name flat)
tame-unset_scoped None word name flat = tame-same flat _
tame-unset_scoped (Some scope) word name flat = tame-options name word (option_unset_in scope name (options_of flat)) flat

-- registers
units-set : (o : Option RegisterError) (c : ℕ) (values : List (List ℕ)) (flat : Flat) → units_of (set_unless o c values flat).world ≡ units_of flat
units-set None c values flat = ap units_in (rest_rest _ flat)
units-set (Some e) c values flat = refl

units-row : (c : ℕ) (values : List (List ℕ)) (flat : Flat) → units_of (set_row c values flat).world ≡ units_of flat
unfolding set_row
units-row c values flat = units-set (register_refusal c values) c values flat

tame-register : (o : Option ℕ) (name : List ℕ) (values : List (List ℕ)) (who : ℕ) (flat : Flat) → IsTame flat (register_set o name values who flat)
tame-register None name values who flat = tame-same flat _
tame-register (Some c) name values who flat =
    tame-then flat (set_row c values flat) (λ w. does (register_modified c who w))
    (record { units = units-row c values flat; keeps = joined_kept flat (set_row c values flat).world (keeps_set_row c values flat) }) (λ w k. tame_noted _ flat w (Asks Nothing) (Asks Nothing) k)

-- selections
tame-selected : (columns : Columns) (ds : List Described) (who : ℕ) (flat : Flat) → IsTame flat (described_selected columns ds who flat)
tame-selected columns [] who flat = tame-same flat _
tame-selected columns (d ∷ ds) who flat =
    tame-if flat _ _ _ (tame-same flat _) (record { units = ap units_in (rest_sels who _ flat); keeps = joined_kept flat (with_sels who _ flat) (keeps_sels who _ flat) })

-- what is said
tame-echo : (words : List (List ℕ)) (who : ℕ) (flat : Flat) → IsTame flat (echo_row words who flat)
tame-echo words who flat = by (is_refusal (status_of who flat))
  where
    said : Flat
    said = with_own who (λ o. record o { status = Said (joined_text words) }) flat

    by : (t : Bool) → IsTame flat (does (if t then flat else said))
    by true = tame-same flat _
    by false = record { units = ap units_in (rest_own who _ flat); keeps = joined_kept flat said (keeps_own who _ flat) }

-- boxes
tame-info : (title : List ℕ) (text : Option (List ℕ)) (who : ℕ) (flat : Flat) → IsTame flat (info_row title text who flat)
tame-info title text who flat = record { units = ap units_in (rest_own who _ flat); keeps = joined_kept flat (with_own who _ flat) (keeps_own who _ flat) }

-- faces
tame-with_faces : (rows : List NamedFace) (flat : Flat) → IsTame flat (does (with_faces rows flat))
tame-with_faces rows flat = record { units = ap units_in (rest_rest _ flat); keeps = joined_kept flat (with_faces rows flat) (keeps_rest _ flat (λ r. refl)) }

tame-faces : (r : Result (List NamedFace) (List ℕ)) (flat : Flat) → IsTame flat (faces_row r flat)
tame-faces (Ok rows) flat = tame-with_faces rows flat
tame-faces (Err name) flat = tame-same flat _

tame-face_read : (name : List ℕ) (r : Result FaceText ℕ) (flat : Flat) → IsTame flat (face_read_row name r flat)
tame-face_read name (Ok text) flat = tame-faces (face_set_in name text (faces_of flat)) flat
tame-face_read name (Err at) flat = tame-same flat _

tame-set_face : (scope name word : List ℕ) (flat : Flat) → IsTame flat (set_face_row scope name word flat)
tame-set_face scope name word flat = tame-if flat _ _ _ (tame-face_read name (word_text (faces_of flat) word) flat) (tame-same flat _)

tame-unset_face : (scope name : List ℕ) (flat : Flat) → IsTame flat (unset_face_row scope name flat)
tame-unset_face scope name flat = tame-if flat _ _ _ (tame-if flat _ _ _ (tame-with_faces _ flat) (tame-same flat _)) (tame-same flat _)

-- all orders
tame-order : (o : Order) (who : ℕ) (flat : Flat) → IsTame flat (row_order o who flat)
tame-order order.Nothing who flat = tame-same flat _
tame-order (order.Edit name) who flat = tame-edit name who flat
tame-order (order.Write file) who flat = tame_noted _ flat flat (Asks Nothing) _ (tame-same flat _)
tame-order order.WriteQuit who flat = tame_noted _ flat flat (Asks Nothing) _ (tame-same flat _)
tame-order order.Quit who flat = tame-quit who flat
tame-order order.QuitForced who flat = tame-same flat _
tame-order (order.Buffer name) who flat = tame-show name who flat
tame-order (order.Delete name) who flat = tame-drop false name who flat
tame-order (order.DeleteForced name) who flat = tame-drop true name who flat
tame-order (order.Declare d) who flat = tame-options d.name [] (declare_in d.kind d.name d.values (options_of flat)) flat
tame-order (order.Set s) who flat =
    tame-if flat (is_declared s.option.name flat) _ _ (tame-set_scoped (scope_named s.option.scope who flat) s.add s.option.scope s.option.name s.values who flat) (tame-same flat _)
tame-order (order.Unset o) who flat = tame-if flat (is_declared o.name flat) _ _ (tame-unset_scoped (scope_named o.scope who flat) o.scope o.name flat) (tame-same flat _)
tame-order (order.SetRegister r) who flat = tame-register (named r.name) r.name r.values who flat
tame-order (order.Select s) who flat = tame-selected s.columns s.ranges who flat
tame-order (order.Echo words) who flat = tame-echo words who flat
tame-order (order.Fail text) who flat = tame-same flat _
tame-order (order.Info i) who flat = tame-info i.title i.text who flat
tame-order (order.SetFace f) who flat = tame-set_face f.scope f.name f.face flat
tame-order (order.UnsetFace f) who flat = tame-unset_face f.scope f.name flat
tame-order (order.Highlighter h) who flat = tame-highlighter h who flat
tame-order (order.Table t) who flat = tame-table t who flat
tame-order (order.Play p) who flat = tame-told _ flat _ (λ keys. tame-same flat _)
tame-order (order.Eval text) who flat = tame-same flat _
tame-order (order.Try t) who flat = tame-same flat _

tame-read_order : (r : Result Order OrderError) (who : ℕ) (flat : Flat) → IsTame flat (row_read_order r who flat)
tame-read_order (Ok o) who flat = tame-order o who flat
tame-read_order (Err e) who flat = tame-same flat _

tame-call : (d : Option Definition) (word : List ℕ) (words : List (List ℕ)) (flat : Flat) → IsTame flat (call_row d word words flat)
tame-call None word words flat = tame-same flat _
tame-call (Some d) word words flat = tame-if flat _ _ _ (tame-same flat _) (tame-same flat _)

tame-named : (command : Option CommandName) (name word : List ℕ) (words : List (List ℕ)) (who : ℕ) (flat : Flat) → IsTame flat (row_named command name word words who flat)
tame-named None name word words who flat = tame-call (definition_of name (tables_of flat).definitions) word words flat
tame-named (Some command) name word words who flat = tame-read_order (order_after command words) who flat

tame-words : (words : List (List ℕ)) (who : ℕ) (flat : Flat) → IsTame flat (row_words words who flat)
unfolding row_words
tame-words [] who flat = tame-same flat _
tame-words (w ∷ ws) who flat = tame-named (command_of (meant w who flat)) (meant w who flat) w ws who flat

tame-expanded : (r : Result (List (List ℕ)) (List ℕ)) (who : ℕ) (flat : Flat) → IsTame flat (row_expanded r who flat)
tame-expanded (Ok words) who flat = tame-words words who flat
tame-expanded (Err name) who flat = tame-same flat _

pub tame_command : (command : Command) (who : ℕ) (flat : Flat) → IsTame flat (row_command command who flat)
unfolding row_command
tame_command command who flat = tame-expanded (expanded (table_of who flat) command) who flat

pub command_units : (command : Command) (who : ℕ) (flat : Flat) → units_of (row_command command who flat).world ≡ units_of flat
command_units command who flat = (tame_command command who flat).units

pub keeps_command : (command : Command) (who : ℕ) (flat : Flat) → KeepsJoined flat (row_command command who flat).world
keeps_command command who flat = (tame_command command who flat).keeps
