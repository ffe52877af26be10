-- No key makes a client come or go.
use Rattle.std.proofs.Common.{◌≡◌, ℕ, ℤ, Bool, true, false, List, [], refl, ◌∙◌}
use Rattle.std.specs.Prelude.{if◌then◌else◌, None}
use Rattle.key_names.specs.declared.key.Key.{Key}
use Rattle.window_view.specs.Sizes.{Dimensions}
use Rattle.mouse_events.specs.declared.mouse.Mouse.{Mouse}
use Rattle.kak_world.specs.declared.own.Mode.{Mode}
use Rattle.kak_world.specs.declared.own.Mode.TheVariants.{Normal, Insert, Prompt}
use Rattle.kak_world.specs.declared.own.StatusText.TheVariants.{Quiet, Refused}
use Rattle.kak_world.specs.declared.world.Rest.{Rest}
use Rattle.kak_world.specs.Dropping.{KeepsJoined}
use Rattle.kak_world.specs.Flat.{Flat, joined_by, left_by_client, is_joined, is_client_leaving, mode_of, with_own, with_units, takes_turn, step_ended, with_rest}
use Rattle.kak_world.specs.Keeping.{whos_of, KeepsClients}
use Rattle.kak_world.proofs.EventLaws.{keeps_fault}
use Rattle.kak_world.proofs.KeepingLaws.{keeps_same, keeps_after, keeps_own, keeps_units, keeps_corner, keeps_commits}
use Rattle.kak_world.proofs.WorldLaws.{joined_rest}
use Rattle.pointer_rows.specs.Scrolling.{scrolled}
use Rattle.pointer_rows.proofs.KeepingLaws.{keeps_pointed, keeps_scrolled}
use Rattle.draw_model.specs.Drawings.{after_following, gutter_for}
use Rattle.session_events.specs.declared.event.Answered.{Answered}
use Rattle.kak_engine.specs.declared.engine.TheConstants.{MAX_UNITS}
use Rattle.kak_engine.specs.declared.place.Place.{Place}
use Rattle.kak_engine.specs.Course.{Task, NotesComing, NotesGoing}
use Rattle.kak_engine.specs.Doing.{DoingEnd, Fine, Failed, GivenUp, Outcome, Do, play_key, top}
use Rattle.draw_model.specs.Boxes.{with_drawn, box_for}
use Rattle.kak_engine.specs.Recording.{listens, recorded}
use Rattle.kak_engine.specs.Steps.{told, step_begun, come, heard_from, coming, going, after_coming, after_going, begun, first_moment, ends_group, group_ended, key_ended, struck, after_key, shown_to, noted_drawn, resized, after_scroll, pointed_by, after_mouse}
use Rattle.kak_engine.specs.Laws.{KeepsPresence}
use Rattle.kak_engine.specs.Seen.{moment_of}
use Rattle.kak_engine.proofs.CarryingLaws.{Keeps, keeps-key, keeps-settled, carried-do}
use Rattle.kak_engine.proofs.TaskLaws.{clients-joined, joined-still, joined-carried}

-- whoever's turn it is
joined-present : (old new : Flat) → KeepsJoined old new → KeepsPresence old new
joined-present old new k = record { whos = k.whos; joined = k.joined }

clients-present : (old new : Flat) → KeepsClients old new → KeepsPresence old new
clients-present old new k = joined-present old new (clients-joined old new k)

present-behind : (a b c : Flat) → KeepsPresence a b → KeepsPresence b c → KeepsPresence a c
present-behind a b c f g = record { whos = g.whos ∙ f.whos; joined = λ who j. g.joined who (f.joined who j) }

whos-rest : (f : Rest → Rest) (flat : Flat) → whos_of (with_rest f flat).clients ≡ whos_of flat.clients
unfolding with_rest
whos-rest f flat = refl

-- a turn that is taken, and a step that is over
present-rest : (f : Rest → Rest) (flat : Flat) → KeepsPresence flat (with_rest f flat)
present-rest f flat = record { whos = whos-rest f flat; joined = λ k j. joined_rest k f flat ∙ j }

present-turn : (who : ℕ) (flat : Flat) → KeepsPresence flat (takes_turn who flat)
present-turn who flat = present-rest _ flat

present-ended : (flat : Flat) → KeepsPresence flat (step_ended flat)
present-ended flat = present-rest _ flat

-- a key, or those that it is mapped to
pub keeps_played : (p : Place) (key : Key) → Keeps KeepsJoined (play_key Do p true key)
keeps_played p key = keeps-key KeepsJoined joined-carried Do (carried-do KeepsJoined joined-carried) p true key

keeps-told : (who : ℕ) (e : DoingEnd) (flat : Flat) → KeepsClients flat (told who e flat)
keeps-told who Fine flat = keeps_same flat
keeps-told who (Failed fault) flat = keeps_fault who fault flat
keeps-told who (GivenUp text) flat = keeps_own who (λ o. record o { status = Refused text }) flat

keeps-begun : (who : ℕ) (flat : Flat) → KeepsPresence flat (begun who flat)
keeps-begun who flat =
    let quiet : Flat = with_own who (λ o. record o { status = Quiet; info = None; dragging = false; recording = listens o.recording }) flat in
    let ready : Flat = with_units MAX_UNITS quiet in
    present-behind flat ready (begun who flat) (clients-present flat ready (keeps_after flat quiet ready (keeps_own who _ flat) (keeps_units MAX_UNITS quiet))) (present-turn who ready)

keeps-group : (mode : Mode) (who : ℕ) (flat : Flat) → KeepsClients flat (ends_group mode who flat)
keeps-group Insert who flat = keeps_same flat
keeps-group Normal who flat = keeps_commits who flat
keeps-group Prompt who flat = keeps_commits who flat

-- what comes behind a key that was run
keeps-ended : (who : ℕ) (key : Key) (o : Outcome) → KeepsPresence o.moment.world (key_ended who key o)
keeps-ended who key o =
    let flat : Flat = o.moment.world in
    let kept : Flat = recorded who key flat in
    let said : Flat = told who o.end kept in
    let settled : Flat = group_ended who said in
    present-behind flat settled (key_ended who key o)
    (clients-present flat settled (keeps_after flat kept settled (keeps_own who _ flat) (keeps_after kept said settled (keeps-told who o.end kept) (keeps-group (mode_of who said) who said)))) (present-ended settled)

keeps-chosen : (t : Bool) (old a b : Flat) → KeepsPresence old a → KeepsPresence old b → KeepsPresence old (if t then a else b)
keeps-chosen true old a b f g = f
keeps-chosen false old a b f g = g

-- a key
pub keeps_key : (who : ℕ) (key : Key) (answers : List Answered) (flat : Flat) → KeepsPresence flat (after_key who key answers flat)
unfolding after_key
keeps_key who key answers flat =
    let o : Outcome = struck who key answers flat in
    keeps-chosen (is_client_leaving who flat) flat flat (key_ended who key o) (joined-present flat flat (joined-still flat))
    (present-behind flat (begun who flat) (key_ended who key o) (keeps-begun who flat)
    (present-behind (begun who flat) o.moment.world (key_ended who key o) (joined-present (begun who flat) o.moment.world (keeps_played (top who) key (first_moment who flat answers))) (keeps-ended who key o)))

-- a resize
pub keeps_resize : (who : ℕ) (size : Dimensions) (flat : Flat) → KeepsPresence flat (resized who size flat)
keeps_resize who size flat = clients-present flat _ (keeps_own who (λ o. record o { size = size }) flat)

-- scrolling, and what a mouse does
keeps-stepped : (who : ℕ) (f : Flat → Flat) (flat : Flat) → ((x : Flat) → KeepsClients x (f x)) → KeepsPresence flat (step_ended (f (takes_turn who flat)))
keeps-stepped who f flat keeps =
    let turned : Flat = takes_turn who flat in
    present-behind flat (f turned) (step_ended (f turned)) (present-behind flat turned (f turned) (present-turn who flat) (clients-present turned (f turned) (keeps turned))) (present-ended (f turned))

pub keeps_scroll : (who : ℕ) (lines : ℤ) (flat : Flat) → KeepsPresence flat (after_scroll who lines flat)
keeps_scroll who lines flat = keeps-stepped who (scrolled who lines) flat (keeps_scrolled who lines)

pub keeps_mouse : (who : ℕ) (mouse : Mouse) (flat : Flat) → KeepsPresence flat (after_mouse who mouse flat)
keeps_mouse who mouse flat = keeps-stepped who (pointed_by who mouse) flat (λ x. keeps_pointed who (gutter_for who x) mouse x)

-- a refresh
pub keeps_refresh : (who : ℕ) (flat : Flat) → KeepsPresence flat (noted_drawn who (shown_to who flat))
keeps_refresh who flat =
    let turned : Flat = takes_turn who flat in
    let followed : Flat = after_following who turned in
    let noted : Flat = with_drawn who followed in
    present-behind flat noted (step_ended noted)
    (present-behind flat turned noted (present-turn who flat) (clients-present turned noted (keeps_after turned followed noted (keeps_corner who _ turned) (keeps_own who (λ o. record o { drawn = true; sent = box_for who followed }) followed))))
    (present-ended noted)

pub joined_key : (k who : ℕ) (key : Key) (answers : List Answered) (flat : Flat) → is_joined k flat ≡ true → is_joined k (after_key who key answers flat) ≡ true
joined_key k who key answers flat j = (keeps_key who key answers flat).joined k j

-- a client that comes, behind its coming, and one that goes, in front of its going
present-begun : (who : ℕ) (flat : Flat) → KeepsPresence flat (step_begun who flat)
present-begun who flat =
    let ended : Flat = step_ended flat in
    let ready : Flat = with_units MAX_UNITS ended in
    present-behind flat ready (step_begun who flat) (present-behind flat ended ready (present-ended flat) (clients-present ended ready (keeps_units MAX_UNITS ended))) (present-turn who ready)

keeps-heard : (who : ℕ) (task : Task) (flat : Flat) (answers : List Answered) → KeepsPresence flat (heard_from who task (step_begun who flat) answers).moment.world
keeps-heard who task flat answers =
    let begin : Flat = step_begun who flat in
    let o : Outcome = heard_from who task begin answers in
    present-behind flat begin o.moment.world (present-begun who flat)
    (joined-present begin o.moment.world (keeps-settled KeepsJoined joined-carried Do (carried-do KeepsJoined joined-carried) (top who) task (moment_of [] answers begin)))

pub keeps_come : (who : ℕ) (answers : List Answered) (flat : Flat) → KeepsPresence (joined_by who flat) (after_coming who answers flat)
unfolding coming after_coming
keeps_come who answers flat =
    let joined : Flat = joined_by who flat in
    let o : Outcome = heard_from who NotesComing (come who flat) answers in
    let said : Flat = told who o.end o.moment.world in
    present-behind joined said (step_ended said)
    (present-behind joined o.moment.world said (keeps-heard who NotesComing joined answers) (clients-present o.moment.world said (keeps-told who o.end o.moment.world))) (present-ended said)

-- the world that a client leaves
abbrev pub parted : ℕ → List Answered → Flat → Flat
parted who answers flat = step_ended (going who answers flat).moment.world

pub going-leaves : (who : ℕ) (answers : List Answered) (flat : Flat) → after_going who answers flat ≡ left_by_client who (parted who answers flat)
unfolding after_going
going-leaves who answers flat = refl

pub keeps_parted : (who : ℕ) (answers : List Answered) (flat : Flat) → KeepsPresence flat (parted who answers flat)
unfolding going
keeps_parted who answers flat =
    let o : Outcome = heard_from who NotesGoing (step_begun who flat) answers in
    present-behind flat o.moment.world (step_ended o.moment.world) (keeps-heard who NotesGoing flat answers) (present-ended o.moment.world)
