-- The flat world: texts under numbers, and the clients that edit them. Everything that a client can see follows from it.
use Rattle.std.specs.Prelude.{ℕ, zero, suc, ◌+◌, Bool, false, not, ◌&&◌, is_some, option_map, if◌then◌else◌, ◌==◌, List, [], ◌∷◌, ◌++◌, length, map, filter, slice_index_or, codes}
use Rattle.std.specs.List.{list_any}
use Rattle.std.specs.declared.option.Option.{Option}
use Rattle.std.specs.Prelude.{Some, None}
use Rattle.tables.specs.Tables.{first_where, changed_where, with_row}
use Rattle.key_names.specs.declared.key.Key.{Key}
use Rattle.list_model.specs.Ranges.{Selected, only}
use Rattle.window_view.specs.declared.corner.Corner.{Corner}
use Rattle.window_view.specs.View.{View}
use Rattle.window_view.specs.Sizes.{first_corner, first_size, view_at}
use Rattle.edit_line.specs.Halves.{Halves, empty}
use Rattle.undo_model.specs.Stories.{Story, opened, committed, committed_by}
use Rattle.kak_registers.specs.declared.row.Register.{Register}
use Rattle.kak_text.specs.declared.widths.TheConstants.{MAX_TABSTOP}
use Rattle.scope_options.specs.declared.scope.Scope.TheVariants.{Window}
use Rattle.scope_options.specs.declared.value.OptionValue.{OptionValue}
use Rattle.scope_options.specs.declared.setting.Setting.{Setting}
use Rattle.scope_options.specs.declared.scope.Scope.{Scope}
use Rattle.scope_options.specs.Scopes.{is_of_client}
use Rattle.scope_options.specs.Settings.{given, seen_from, without_client}
use Rattle.scope_options.specs.Numbers.{number_within}
use Rattle.face_texts.specs.declared.rows.NamedFace.{NamedFace}
use Rattle.face_texts.specs.Given.{given as given_faces}
use Rattle.highlight_paint.specs.Painters.{Highlighter}
use Rattle.highlight_paint.specs.Highlighters.{without_scopes as highlighters_without}
use Rattle.scope_tables.specs.Rows.{TableRows, no_table_rows, without_scopes as rows_without}
use Rattle.list_shelf.specs.declared.holder.Holder.{Holder}
use Rattle.list_shelf.specs.declared.holder.Holder.TheVariants.{Of}
use Rattle.list_shelf.specs.Shelves.{Held, is_held_by}
use Rattle.kak_world.specs.declared.own.Mode.{Mode}
use Rattle.kak_world.specs.declared.own.Mode.TheVariants.{Normal}
use Rattle.kak_world.specs.declared.own.StatusText.{StatusText}
use Rattle.kak_world.specs.declared.own.StatusText.TheVariants.{Quiet}
use Rattle.kak_world.specs.declared.own.Own.{Own}
use Rattle.kak_world.specs.declared.purpose.Purpose.{Purpose}
use Rattle.kak_world.specs.declared.purpose.Purpose.TheVariants.{Commands}
use Rattle.kak_world.specs.declared.clients.Client.{Client}
use Rattle.kak_world.specs.declared.world.Stepping.{Stepping}
use Rattle.kak_world.specs.declared.world.Rest.{Rest}
use Rattle.kak_world.specs.declared.options.TheConstants.{MAX_INDENT}

-- a buffer: its name, whether that is a file's, its story, which is its text with the undo tree, and the selection lists on it
pub record Buffer : Type 0 where
  pub name : List ℕ
  pub is_file : Bool
  pub story : Story
  pub lists : List Held

-- what is kept by scope, beside options: the highlighters, and the hooks, key maps, aliases and defined commands
pub record Scoped : Type 0 where
  pub highlighters : List Highlighter
  pub tables : TableRows

-- the world
pub record Flat : Type 0 where
  -- the buffers, each at the place of its number; nothing stands where no buffer has the number
  pub buffers : List (Option Buffer)
  -- the clients, in the order in which they came
  pub clients : List Client
  -- what is no buffer's and no client's
  pub rest : Rest
  -- what is kept by scope
  pub scoped : Scoped

-- the list of one selection, of the character at an offset
abbrev pub only_at : ℕ → Selected
only_at o = record { list = only o ∷ []; main = 0 }

-- the list that a holder begins with on a buffer: one selection, of the first character, and a window at the text's start
abbrev pub fresh_list : Holder → Held
fresh_list holder = record { holder = holder; sels = only_at 0; corner = first_corner }

-- a buffer that was just opened with a text, with nobody's list on it
abbrev pub made_buffer : List ℕ → Bool → List ℕ → Buffer
made_buffer name is_file text = record { name = name; is_file = is_file; story = opened text; lists = [] }

-- the buffer that is there when nothing else is
abbrev pub scratch : Buffer
scratch = made_buffer (codes "*scratch*") false (10 ∷ [])

-- what a client that has just come has of its own
abbrev pub first_own : Own
first_own = record { mode = Normal; count = 0; register = None; pending = None; status = Quiet; appending = false; purpose = Commands; prompt = empty; recording = None; leaving = false; drawn = false; dragging = false; size = first_size; info = None; sent = None }

-- a client that has just come: its number in the history, the number in its name, and that of the buffer that it sees
abbrev pub newcomer : ℕ → ℕ → ℕ → Client
newcomer who number shown = record { who = who; number = number; shown = shown; own = first_own }

-- no step is under way: it is nobody's turn, no unit is left, neither a defined command nor a hook runs, no hooks are to be run, and
-- none failed
abbrev pub between_steps : Stepping
between_steps = record { units = 0; turn = None; arguments = None; parameter = None; due = []; faults = 0 }

-- what is no buffer's and no client's before anything happened: no register was set, and the options and the faces are those
-- that are given
abbrev pub first_rest : Rest
first_rest = record { step = between_steps; registers = []; options = given; faces = given_faces }

-- what is kept by scope before anything happened: nothing
abbrev pub first_scoped : Scoped
first_scoped = record { highlighters = []; tables = no_table_rows }

-- the world before anything happened: the one buffer, and no client
abbrev pub opening : Flat
opening = record { buffers = Some scratch ∷ []; clients = []; rest = first_rest; scoped = first_scoped }

-- whether a client has that number in the history
abbrev pub is_of : ℕ → Client → Bool
is_of who c = c.who == who

-- whether a client of that number is there
abbrev pub is_here : ℕ → List Client → Bool
is_here who clients = list_any (is_of who) clients

-- whether a holder has a list on a buffer
abbrev pub has_list : Holder → Buffer → Bool
has_list holder b = list_any (is_held_by holder) b.lists

-- a holder's list on a buffer; where it has none, the one that it would begin with
abbrev pub list_on : Holder → Buffer → Held
list_on holder b = first_where (is_held_by holder) (fresh_list holder) b.lists

-- a buffer with a holder's list on it changed
abbrev pub with_list : Holder → (Held → Held) → Buffer → Buffer
with_list holder f b = record b { lists = changed_where (is_held_by holder) f b.lists }

-- a buffer on which a holder has a list: the one that it has, or else the one that it begins with
abbrev pub listed_for : Holder → Buffer → Buffer
listed_for holder b = record b { lists = with_row (is_held_by holder) (fresh_list holder) b.lists }

-- a buffer without a holder's lists on it
abbrev pub unlisted_for : Holder → Buffer → Buffer
unlisted_for holder b = record b { lists = filter (λ held. not (is_held_by holder held)) b.lists }

-- a buffer in which a client's pending group is committed
abbrev pub committed_for : ℕ → Buffer → Buffer
committed_for who b = record b { story = committed_by who b.story }

-- a buffer that a client leaves: its pending group is committed, and its list goes
abbrev pub left_behind : ℕ → Buffer → Buffer
left_behind who b = unlisted_for (Of who) (committed_for who b)

-- whether a number is a buffer's
abbrev pub is_there : ℕ → List (Option Buffer) → Bool
is_there n buffers = is_some (slice_index_or buffers n None)

-- a buffer, if there is one, or else the one that is there when nothing else is
abbrev pub buffer_or_scratch : Option Buffer → Buffer
buffer_or_scratch (Some b) = b
buffer_or_scratch None = scratch

-- the buffer of that number
abbrev pub buffer_at : ℕ → List (Option Buffer) → Buffer
buffer_at n buffers = buffer_or_scratch (slice_index_or buffers n None)

-- the buffers, with that of a number changed
abbrev pub changed_at : ℕ → (Buffer → Buffer) → List (Option Buffer) → List (Option Buffer)
changed_at n f [] = []
changed_at zero f (b ∷ bs) = option_map f b ∷ bs
changed_at (suc n) f (b ∷ bs) = b ∷ changed_at n f bs

-- the least number of a buffer
abbrev pub lowest : List (Option Buffer) → ℕ
lowest [] = 0
lowest (Some b ∷ bs) = 0
lowest (None ∷ bs) = suc (lowest bs)

-- the least number from n on that isn't among the numbers, of which there are at most `left` from n on
abbrev pub first_free : ℕ → ℕ → List ℕ → ℕ
first_free zero n numbers = n
first_free (suc left) n numbers = if list_any (λ m. m == n) numbers then first_free left (n + 1) numbers else n

-- the least number that isn't among the numbers
abbrev pub least_free : List ℕ → ℕ
least_free numbers = first_free (length numbers) 0 numbers

-- the numbers in the clients' names
abbrev pub numbers_of : List Client → List ℕ
numbers_of clients = map (λ c. c.number) clients

-- what the world says of a client
unfoldable pub client_of : ℕ → Flat → Client
client_of who flat = first_where (is_of who) (newcomer who 0 0) flat.clients

-- the number of the buffer that it sees
unfoldable pub shown_of : ℕ → Flat → ℕ
shown_of who flat = (client_of who flat).shown

-- the buffer that it sees
unfoldable pub buffer_of : ℕ → Flat → Buffer
buffer_of who flat = buffer_at (shown_of who flat) flat.buffers

-- its list there
unfoldable pub list_of : ℕ → Flat → Held
list_of who flat = list_on (Of who) (buffer_of who flat)

-- whether a client has joined and not left: it is here, and so is the buffer that it sees, with a list of its own
unfoldable pub is_joined : ℕ → Flat → Bool
is_joined who flat = is_here who flat.clients && (is_there (shown_of who flat) flat.buffers && has_list (Of who) (buffer_of who flat))

-- what is no buffer's and no client's; each thing that is seen of it is a field of it
unfoldable pub rest_of : Flat → Rest
rest_of flat = flat.rest

-- what is kept by scope; each thing that is seen of it is a field of it
unfoldable pub scoped_of : Flat → Scoped
scoped_of flat = flat.scoped

-- whose turn it is: the client's whose step is under way
abbrev pub turn_of : Flat → Option ℕ
turn_of flat = (rest_of flat).step.turn

-- whether a turn is a client's
abbrev pub is_turn_of : ℕ → Option ℕ → Bool
is_turn_of who None = false
is_turn_of who (Some number) = number == who

-- whether a client acts: it has joined, and it is its turn
unfoldable pub acts : ℕ → Flat → Bool
acts who flat = is_joined who flat && is_turn_of who (turn_of flat)

-- what is the client's own
unfoldable pub own_of : ℕ → Flat → Own
own_of who flat = (client_of who flat).own

-- the number in its name
unfoldable pub number_of : ℕ → Flat → ℕ
number_of who flat = (client_of who flat).number

-- the name of the buffer that it sees, the text and its selections
unfoldable pub name_of : ℕ → Flat → List ℕ
name_of who flat = (buffer_of who flat).name

unfoldable pub text_of : ℕ → Flat → List ℕ
text_of who flat = (buffer_of who flat).story.text

unfoldable pub sels_of : ℕ → Flat → Selected
sels_of who flat = (list_of who flat).sels

-- the story of the buffer that it sees
unfoldable pub story_of : ℕ → Flat → Story
story_of who flat = (buffer_of who flat).story

-- the number of the node that the text is at, or will be at when what is pending is committed
unfoldable pub node_number_of : ℕ → Flat → ℕ
node_number_of who flat = (committed (story_of who flat)).current

-- the window through which it sees the buffer: it stands where the client left it on this buffer, and has the client's size
unfoldable pub view_of : ℕ → Flat → View
view_of who flat = view_at (list_of who flat).corner (own_of who flat).size

-- what options are set to
abbrev pub options_of : Flat → List Setting
options_of flat = (rest_of flat).options

-- the value of an option that counts for a client where it looks
abbrev pub option_of : List ℕ → ℕ → Flat → Option OptionValue
option_of name who flat = seen_from (Window who (shown_of who flat)) name (options_of flat)

-- how many cells lie between tab stops where a client looks, and by how many columns a line is indented
unfoldable pub tabstop_of : ℕ → Flat → ℕ
tabstop_of who flat = number_within 1 MAX_TABSTOP 8 (option_of (codes "tabstop") who flat)

unfoldable pub indentwidth_of : ℕ → Flat → ℕ
indentwidth_of who flat = number_within 0 MAX_INDENT 4 (option_of (codes "indentwidth") who flat)

-- how many keys and commands the step may still run
abbrev pub units_of : Flat → ℕ
units_of flat = (rest_of flat).step.units

-- what the registers hold
abbrev pub registers_of : Flat → List Register
registers_of flat = (rest_of flat).registers

-- the faces that are set
abbrev pub faces_of : Flat → List NamedFace
faces_of flat = (rest_of flat).faces

-- the highlighters
abbrev pub highlighters_of : Flat → List Highlighter
highlighters_of flat = (scoped_of flat).highlighters

-- the hooks, key maps, aliases and defined commands
abbrev pub tables_of : Flat → TableRows
tables_of flat = (scoped_of flat).tables

abbrev pub mode_of : ℕ → Flat → Mode
mode_of who flat = (own_of who flat).mode

abbrev pub count_of : ℕ → Flat → ℕ
count_of who flat = (own_of who flat).count

abbrev pub register_of : ℕ → Flat → Option ℕ
register_of who flat = (own_of who flat).register

abbrev pub pending_of : ℕ → Flat → Option Key
pending_of who flat = (own_of who flat).pending

abbrev pub status_of : ℕ → Flat → StatusText
status_of who flat = (own_of who flat).status

abbrev pub is_appending : ℕ → Flat → Bool
is_appending who flat = (own_of who flat).appending

-- what the line of its prompt is taken as
abbrev pub purpose_of : ℕ → Flat → Purpose
purpose_of who flat = (own_of who flat).purpose

-- the line of its prompt, with the cursor there
abbrev pub prompt_of : ℕ → Flat → Halves
prompt_of who flat = (own_of who flat).prompt

abbrev pub is_client_leaving : ℕ → Flat → Bool
is_client_leaving who flat = (own_of who flat).leaving

abbrev pub is_drawn : ℕ → Flat → Bool
is_drawn who flat = (own_of who flat).drawn

-- the world with what is a client's own changed
unfoldable pub with_own : ℕ → (Own → Own) → Flat → Flat
with_own who f flat = record flat { clients = changed_where (is_of who) (λ c. record c { own = f c.own }) flat.clients }

-- the world with other buffers, with what is no buffer's and no client's changed, and with what is kept by scope changed: each
-- change of the world writes one of its four parts by these three and `with_own`, but where clients come, go or are shown
-- another buffer, and where a buffer is dropped
unfoldable pub with_buffers : List (Option Buffer) → Flat → Flat
with_buffers buffers flat = record flat { buffers = buffers }

unfoldable pub with_rest : (Rest → Rest) → Flat → Flat
with_rest f flat = record flat { rest = f flat.rest }

unfoldable pub with_scoped : (Scoped → Scoped) → Flat → Flat
with_scoped f flat = record flat { scoped = f flat.scoped }

-- the world with a client's list on the buffer that it sees changed
unfoldable pub with_list_of : ℕ → (Held → Held) → Flat → Flat
unfolding with_buffers
with_list_of who f flat = with_buffers (changed_at (shown_of who flat) (with_list (Of who) f) flat.buffers) flat

-- the world with other selections of a client
unfoldable pub with_sels : ℕ → Selected → Flat → Flat
with_sels who sels flat = with_list_of who (λ held. record held { sels = sels }) flat

-- the world in which a client's window on the buffer that it sees stands elsewhere
unfoldable pub with_corner : ℕ → Corner → Flat → Flat
with_corner who corner flat = with_list_of who (λ held. record held { corner = corner }) flat

-- the world with other units
abbrev pub with_units : ℕ → Flat → Flat
with_units units flat = with_rest (λ r. record r { step = record r.step { units = units } }) flat

-- the world in which it is a client's turn
abbrev pub takes_turn : ℕ → Flat → Flat
takes_turn who flat = with_rest (λ r. record r { step = record r.step { turn = Some who } }) flat

-- the world when a step is over: it is nobody's turn, no unit is left, and what was to be run still isn't
abbrev pub step_ended : Flat → Flat
step_ended flat = with_rest (λ r. record r { step = between_steps }) flat

-- the world with other contents of the registers
abbrev pub with_registers : List Register → Flat → Flat
with_registers rows flat = with_rest (λ r. record r { registers = rows }) flat

-- the world with options set otherwise
abbrev pub with_options : List Setting → Flat → Flat
with_options rows flat = with_rest (λ r. record r { options = rows }) flat

-- the world with other faces that are set
abbrev pub with_faces : List NamedFace → Flat → Flat
with_faces rows flat = with_rest (λ r. record r { faces = rows }) flat

-- the world with other highlighters
abbrev pub with_highlighters : List Highlighter → Flat → Flat
with_highlighters rows flat = with_scoped (λ s. record s { highlighters = rows }) flat

-- the world with other hooks, key maps, aliases and defined commands
abbrev pub with_tables : TableRows → Flat → Flat
with_tables rows flat = with_scoped (λ s. record s { tables = rows }) flat

-- what is kept by scope without that of the scopes that pass a test
abbrev pub scoped_without : (Scope → Bool) → Scoped → Scoped
scoped_without goes s = record { highlighters = highlighters_without goes s.highlighters; tables = rows_without goes s.tables }

-- the world with one more client, named by the least number that no other has; it sees the buffer with the least number
unfoldable pub joined_by : ℕ → Flat → Flat
joined_by who flat = record flat {
  buffers = changed_at (lowest flat.buffers) (listed_for (Of who)) flat.buffers;
  clients = flat.clients ++ newcomer who (least_free (numbers_of flat.clients)) (lowest flat.buffers) ∷ [];
}

-- the world without a client, its lists and what is kept of its windows; what was pending of it is committed
unfoldable pub left_by_client : ℕ → Flat → Flat
left_by_client who flat = record flat {
  buffers = map (option_map (left_behind who)) flat.buffers;
  clients = filter (λ c. not (is_of who c)) flat.clients;
  rest = record flat.rest { options = without_client who flat.rest.options };
  scoped = scoped_without (is_of_client who) flat.scoped;
}
