-- What is made of files takes no units, keeps those that have joined, and has fewer rows behind it than what asked for them.
use Rattle.std.proofs.Common.{◌≡◌, ◌<◌, ◌+◌, ◌*◌, ℕ, Bool, true, false, List, [], ◌∷◌, refl, ap, ap₂, ◌∙◌, arith}
use Rattle.std.proofs.lemmas.Bool.{and_from}
use Rattle.std.specs.Prelude.{if◌then◌else◌, is_some, slice_index_or, chars, None, Ok, Err}
use Rattle.std.specs.declared.result.Result.{Result}
use Rattle.kak_ports.specs.declared.sink.Put.{Put}
use Rattle.kak_ports.specs.declared.sink.Put.TheVariants as put
use Rattle.kak_files.specs.declared.files.FileRead.{FileRead}
use Rattle.kak_files.specs.declared.files.FileRead.TheVariants as read
use Rattle.text_coding.specs.declared.form.Eol.{Eol}
use Rattle.text_coding.specs.declared.form.Bom.{Bom}
use Rattle.text_coding.specs.declared.form.Loaded.{Loaded}
use Rattle.text_coding.specs.declared.form.DecodeError.{DecodeError}
use Rattle.text_coding.specs.Coding.{loaded}
use Rattle.scope_options.specs.declared.scope.Scope.{Scope}
use Rattle.scope_options.specs.declared.scope.Scope.TheVariants.{Buffer as InBuffer}
use Rattle.scope_options.specs.declared.setting.Setting.{Setting}
use Rattle.scope_options.specs.declared.options.OptionError.{OptionError}
use Rattle.scope_options.specs.Changes.{option_set_in}
use Rattle.kak_world.specs.declared.ask.Saving.{Saving}
use Rattle.kak_world.specs.Flat.{Flat, units_of, options_of, is_there, is_joined, turn_of, is_turn_of, acts, with_options, with_rest}
use Rattle.kak_world.specs.Dropping.{KeepsJoined}
use Rattle.kak_world.specs.Showing.{first_gap, has_all_buffers, buffer_opened, shows}
use Rattle.kak_world.specs.Saving.{is_named, saved_in}
use Rattle.scope_tables.specs.declared.names.HookName.TheVariants.{BufCreate, BufOpenFile, BufWritePost}
use Rattle.kak_world.specs.declared.events.HookEvent.{HookEvent}
use Rattle.kak_world.specs.Events.{event_of, noted, displayed}
use Rattle.kak_world.specs.Rows.{RowEnd, stages_of, stages_of_write}
use Rattle.kak_world.proofs.EventLaws.{keeps_noted, units_noted}
use Rattle.kak_world.proofs.KeepingLaws.{keeps_rest}
use Rattle.kak_world.proofs.WorldLaws.{units_in, rest_rest, acts_joined, acts_turned}
use Rattle.kak_world.proofs.ShownLaws.{rest_shows, rest_opened}
use Rattle.kak_world.proofs.GapLemmas.{gaps_are_taken, keeps_opened}
use Rattle.kak_world.proofs.JoinedLemmas.{joined_kept, joined_same, joined_then, stays_shows, keeps_saved as keeps_marked, rest_saved}
use Rattle.command_set.specs.Files.{set_or_same, set_to, formatted, eol_word, bom_word, made_noted, loaded_noted, load_row, empty_row, loaded_row, row_read, marked_if_own, behind_write, row_saved}
use Rattle.command_set.specs.Laws.{IsTame}

-- a world that came of another, without a unit taken, and with those that had joined
record Follows (old new : Flat) : Type 0 where
  pub units : units_of new ≡ units_of old
  pub keeps : KeepsJoined old new

follows-same : (flat : Flat) → Follows flat flat
follows-same flat = record { units = refl; keeps = joined_same flat }

follows-then : (a b c : Flat) → Follows a b → Follows b c → Follows a c
follows-then a b c h g = record { units = g.units ∙ h.units; keeps = joined_then a b c h.keeps g.keeps }

-- a row over such a world, behind which no row comes
record Ends (flat : Flat) (end : RowEnd) : Type 0 where
  pub world : Follows flat end.world
  pub last : stages_of end.row ≡ 0

ends-if : (flat : Flat) (t : Bool) (a b : RowEnd) → Ends flat a → Ends flat b → Ends flat (if t then a else b)
ends-if flat true a b h g = h
ends-if flat false a b h g = g

-- an option is set, where it takes the word
follows-set : (r : Result (List Setting) OptionError) (flat : Flat) → Follows flat (set_or_same r flat)
follows-set (Ok rows) flat = record { units = ap units_in (rest_rest _ flat); keeps = joined_kept flat (with_options rows flat) (keeps_rest _ flat (λ r. refl)) }
follows-set (Err e) flat = follows-same flat

buffers-set : (r : Result (List Setting) OptionError) (flat : Flat) → (set_or_same r flat).buffers ≡ flat.buffers
unfolding with_rest
buffers-set (Ok rows) flat = refl
buffers-set (Err e) flat = refl

follows-to : (scope : Scope) (name word : List ℕ) (flat : Flat) → Follows flat (set_to scope name word flat)
follows-to scope name word flat = follows-set (option_set_in scope name (word ∷ []) false (options_of flat)) flat

buffers-to : (scope : Scope) (name word : List ℕ) (flat : Flat) → (set_to scope name word flat).buffers ≡ flat.buffers
buffers-to scope name word flat = buffers-set (option_set_in scope name (word ∷ []) false (options_of flat)) flat

follows-form : (n : ℕ) (eol : Eol) (bom : Bom) (flat : Flat) → Follows flat (formatted n eol bom flat)
follows-form n eol bom flat = follows-then flat _ _ (follows-to (InBuffer n) _ (eol_word eol) flat) (follows-to (InBuffer n) _ (bom_word bom) _)

pub buffers_form : (n : ℕ) (eol : Eol) (bom : Bom) (flat : Flat) → (formatted n eol bom flat).buffers ≡ flat.buffers
buffers_form n eol bom flat = buffers-to (InBuffer n) _ (bom_word bom) _ ∙ buffers-to (InBuffer n) _ (eol_word eol) flat

-- a buffer that was opened is there
pub opened_there : (name : List ℕ) (file : Bool) (text : List ℕ) (flat : Flat) → is_there (first_gap flat.buffers) (buffer_opened name file text flat).buffers ≡ true
unfolding buffer_opened
opened_there name file text flat = ap is_some (gaps_are_taken.stands _ flat.buffers).here

follows-opened : (name : List ℕ) (file : Bool) (text : List ℕ) (flat : Flat) → Follows flat (buffer_opened name file text flat)
follows-opened name file text flat = record { units = ap units_in (rest_opened name file text flat); keeps = joined_kept flat _ (keeps_opened name file text flat) }

follows-shows : (who n : ℕ) (flat : Flat) → is_there n flat.buffers ≡ true → Follows flat (shows who n flat)
follows-shows who n flat t = record { units = ap units_in (rest_shows who n flat); keeps = stays_shows who n flat t }

-- hooks are to hear something
follows-noted : (event : HookEvent) (flat : Flat) → Follows flat (noted event flat)
follows-noted event flat = record { units = units_noted event flat; keeps = joined_kept flat (noted event flat) (keeps_noted event flat) }

follows-made : (name : List ℕ) (n who : ℕ) (flat : Flat) → Follows flat (made_noted name n who flat)
follows-made name n who flat = let w : Flat = noted (event_of BufCreate name n) flat in follows-then flat w (displayed who w) (follows-noted _ flat) (follows-noted _ w)

follows-loaded : (name : List ℕ) (n who : ℕ) (flat : Flat) → Follows flat (loaded_noted name n who flat)
follows-loaded name n who flat =
    let made : Flat = noted (event_of BufCreate name n) flat in
    let opened : Flat = noted (event_of BufOpenFile name n) made in
    follows-then flat made (displayed who opened) (follows-noted _ flat) (follows-then made opened (displayed who opened) (follows-noted _ made) (follows-noted _ opened))

ends-load : (name : List ℕ) (l : Loaded) (who : ℕ) (flat : Flat) → Ends flat (load_row name l who flat)
ends-load name l who flat =
    let n : ℕ = first_gap flat.buffers in
    let new : Flat = buffer_opened (chars name) true l.text flat in
    let set : Flat = formatted n l.eol l.bom new in
    ends-if flat (has_all_buffers flat) _ _ (record { world = follows-same flat; last = refl })
    (record {
      world = follows-then flat (shows who n set) _
          (follows-then flat new _ (follows-opened (chars name) true l.text flat)
          (follows-then new set _ (follows-form n l.eol l.bom new)
          (follows-shows who n set (ap (is_there n) (buffers_form n l.eol l.bom new) ∙ opened_there (chars name) true l.text flat))))
          (follows-loaded name n who (shows who n set));
      last = refl;
    })

ends-empty : (name : List ℕ) (who : ℕ) (flat : Flat) → Ends flat (empty_row name who flat)
ends-empty name who flat =
    let n : ℕ = first_gap flat.buffers in
    let new : Flat = buffer_opened (chars name) true (10 ∷ []) flat in
    ends-if flat (has_all_buffers flat) _ _ (record { world = follows-same flat; last = refl })
    (record {
      world = follows-then flat (shows who n new) _
          (follows-then flat new _ (follows-opened (chars name) true (10 ∷ []) flat) (follows-shows who n new (opened_there (chars name) true (10 ∷ []) flat)))
          (follows-made name n who (shows who n new));
      last = refl;
    })

ends-loaded : (r : Result Loaded DecodeError) (name : List ℕ) (who : ℕ) (flat : Flat) → Ends flat (loaded_row r name who flat)
ends-loaded (Ok l) name who flat = ends-load name l who flat
ends-loaded (Err e) name who flat = record { world = follows-same flat; last = refl }

ends-read : (name : List ℕ) (answer : FileRead) (who : ℕ) (flat : Flat) → Ends flat (row_read name answer who flat)
unfolding row_read
ends-read name (read.Bytes bytes) who flat = ends-loaded (loaded bytes) name who flat
ends-read name read.NotThere who flat = ends-empty name who flat
ends-read name read.TooBig who flat = record { world = follows-same flat; last = refl }
ends-read name read.Failed who flat = record { world = follows-same flat; last = refl }

-- a file was written
follows-marked : (saving : Saving) (flat : Flat) → Follows flat (marked_if_own saving flat)
follows-marked saving flat = by (is_named (chars saving.file) (slice_index_or flat.buffers saving.buffer None))
  where
    by : (t : Bool) → Follows flat (if t then saved_in saving.buffer flat else flat)
    by true = record { units = ap units_in (rest_saved saving.buffer flat); keeps = joined_kept flat (saved_in saving.buffer flat) (keeps_marked saving.buffer flat) }
    by false = follows-same flat

-- behind a write hooks are to hear of it, and a row may come by which the client leaves
follows-behind : (quits : Bool) (old flat : Flat) → Follows old flat → Follows old (behind_write quits flat).world
follows-behind true old flat h = h
follows-behind false old flat h = h

stages-behind : (quits : Bool) (flat : Flat) → stages_of (behind_write quits flat).row < stages_of_write quits
stages-behind true flat = omega arith
stages-behind false flat = omega arith

none-behind : (quits : Bool) → 0 < stages_of_write quits
none-behind true = omega arith
none-behind false = omega arith

follows-saved : (saving : Saving) (answer : Put) (who : ℕ) (flat : Flat) → Follows flat (row_saved saving answer who flat).world
unfolding row_saved
follows-saved saving put.Failed who flat = follows-same flat
follows-saved saving put.Done who flat =
    let marked : Flat = marked_if_own saving flat in
    follows-behind saving.quits flat _ (follows-then flat marked _ (follows-marked saving flat) (follows-noted (event_of BufWritePost saving.file saving.buffer) marked))

tame-ends : (flat : Flat) (end : RowEnd) → Ends flat end → IsTame flat end
tame-ends flat end h = record { units = h.world.units; keeps = h.world.keeps }

pub tame_read : (name : List ℕ) (answer : FileRead) (who : ℕ) (flat : Flat) → IsTame flat (row_read name answer who flat)
tame_read name answer who flat = tame-ends flat _ (ends-read name answer who flat)

pub tame_saved : (saving : Saving) (answer : Put) (who : ℕ) (flat : Flat) → IsTame flat (row_saved saving answer who flat)
tame_saved saving answer who flat = record { units = (follows-saved saving answer who flat).units; keeps = (follows-saved saving answer who flat).keeps }

pub read_ends : (name : List ℕ) (answer : FileRead) (who : ℕ) (flat : Flat) → stages_of (row_read name answer who flat).row ≡ 0
read_ends name answer who flat = (ends-read name answer who flat).last

pub saved_fewer : (saving : Saving) (answer : Put) (who : ℕ) (flat : Flat) → stages_of (row_saved saving answer who flat).row < stages_of_write saving.quits
unfolding row_saved
saved_fewer saving put.Failed who flat = none-behind saving.quits
saved_fewer saving put.Done who flat = stages-behind saving.quits _

-- what may come behind is less than what might have come before
pub read_falls : (name : List ℕ) (answer : FileRead) (who : ℕ) (flat : Flat)
    → 4 * units_of (row_read name answer who flat).world + stages_of (row_read name answer who flat).row < 4 * units_of flat + 1
read_falls name answer who flat = omega (arith, (tame_read name answer who flat).units, read_ends name answer who flat)

pub saved_falls : (saving : Saving) (answer : Put) (who : ℕ) (flat : Flat)
    → 4 * units_of (row_saved saving answer who flat).world + stages_of (row_saved saving answer who flat).row < 4 * units_of flat + stages_of_write saving.quits
saved_falls saving answer who flat = omega (arith, (tame_saved saving answer who flat).units, saved_fewer saving answer who flat)

pub keeps_read : (name : List ℕ) (answer : FileRead) (who : ℕ) (flat : Flat) → KeepsJoined flat (row_read name answer who flat).world
keeps_read name answer who flat = (tame_read name answer who flat).keeps

pub keeps_saved : (saving : Saving) (answer : Put) (who : ℕ) (flat : Flat) → KeepsJoined flat (row_saved saving answer who flat).world
keeps_saved saving answer who flat = (tame_saved saving answer who flat).keeps

-- so it is with the world in which a file's text was opened
-- who acts in a world acts in one that keeps those that have joined
acts-stays : (who : ℕ) (old new : Flat) → KeepsJoined old new → acts who old ≡ true → acts who new ≡ true
unfolding acts
acts-stays who old new k a =
    and_from (is_joined who new) (is_turn_of who (turn_of new)) (k.joined who (acts_joined who old a)) (ap (is_turn_of who) k.turn ∙ acts_turned who old a)

pub acts_opened : (who : ℕ) (name text : List ℕ) (flat now : Flat) → acts who flat ≡ true → now ≡ buffer_opened name true text flat → acts who now ≡ true
acts_opened who name text flat now a e = ap (acts who) e ∙ acts-stays who flat _ (follows-opened name true text flat).keeps a

pub acts_loaded : (who n : ℕ) (name text : List ℕ) (eol : Eol) (bom : Bom) (flat mid now : Flat) → acts who flat ≡ true → mid ≡ buffer_opened name true text flat → now ≡ formatted n eol bom mid → acts who now ≡ true
acts_loaded who n name text eol bom flat mid now a e f =
    ap (acts who) f ∙ acts-stays who mid _ (follows-form n eol bom mid).keeps (acts_opened who name text flat mid a e)

pub there_opened : (n : ℕ) (name text : List ℕ) (flat now : Flat) → n ≡ first_gap flat.buffers → now ≡ buffer_opened name true text flat → is_there n now.buffers ≡ true
there_opened n name text flat now g e = ap₂ (λ (k : ℕ) (w : Flat). is_there k w.buffers) g e ∙ opened_there name true text flat

pub there_loaded : (n : ℕ) (name text : List ℕ) (eol : Eol) (bom : Bom) (flat mid now : Flat) → n ≡ first_gap flat.buffers → mid ≡ buffer_opened name true text flat → now ≡ formatted n eol bom mid → is_there n now.buffers ≡ true
there_loaded n name text eol bom flat mid now g e f =
    ap (λ (w : Flat). is_there n w.buffers) f ∙ ap (is_there n) (buffers_form n eol bom mid) ∙ there_opened n name text flat mid g e
