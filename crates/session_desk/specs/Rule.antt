-- The rule of the desk's table, and what each kind of atomic step tells.
-- Word 0 is the turn: 0 free, 1 held. Word 1 is twice the length of the history, and one more where a mark is set.
-- Slot 0 holds the object, and is out with the holder from the taking of the turn to its release.
use Rattle.std.specs.Prelude.{◌≡◌, ◌≢◌, ◌⊎◌, ℕ, ◌+◌, ◌-◌, ◌*◌, ◌<◌, Bool, true, false, List, [], ◌∷◌, ◌++◌, length, All, AllPairs, Option, Some, None}
use mathlib.Core.Option.{some}
use lib.ListN.{get_elem?}
use Rattle.atomic_table.specs.Table.{State, Me, Step}
use Rattle.session_turns.specs.Growth.{Begins}
use Rattle.session_desk.specs.declared.rule.Role.{Role}
use Rattle.session_desk.specs.declared.rule.Role.TheVariants.{Admits, Plays, Spent}
use Rattle.session_desk.specs.declared.rule.View.{View}
use Rattle.session_desk.specs.Histories.{longer, entries_by, AddsOne, Met, MaySetMark, first_mark, GivenBack, given_number, given_list, HasGiven, HasMet, HasOtherNumber}

-- a keeper's view or a pass's
abbrev pub is_live : Role → Bool
is_live (Admits made out) = true
is_live (Plays number) = true
is_live Spent = false

-- 1 for a pass
abbrev pub pass_weight : Role → ℕ
pass_weight (Admits made out) = 0
pass_weight (Plays number) = 1
pass_weight Spent = 0

-- how many of the views are passes
abbrev pub pass_count : {E F : Type 0} → List (View E F) → ℕ
pass_count [] = 0
pass_count (v ∷ vs) = pass_weight v.role + pass_count vs

-- word 1, of the length and the mark
abbrev pub length_word : ℕ → Option ℕ → ℕ
length_word n None = 2 * n
length_word n (Some k) = 2 * n + 1

-- the desk between two steps: the history, its mark, the turn and who holds it, how many passes were made and are out, and the
-- seat of each number, which is the keeper's, 0, once the pass was given back
pub record Facts (E : Type 0) : Type 0 where
  pub history : List E
  pub mark : Option ℕ
  pub turn : ℕ
  pub holder : ℕ
  pub made : ℕ
  pub out : ℕ
  pub seat_of : ℕ → ℕ

-- the keeper sits at 0 and knows the counts; a pass has its number alone
abbrev pub Knows : ℕ → ℕ → (ℕ → ℕ) → ℕ → Role → Type 0
Knows made out seat_of seat (Admits m k) = (m ≡ made) × (k ≡ out) × (seat ≡ 0)
Knows made out seat_of seat (Plays n) = (n < made) × (seat_of n ≡ seat) × (0 < seat)
Knows made out seat_of seat Spent = Unit {0}

-- what a pass has seen has all of its own entries
abbrev pub SameOwn : {E : Type 0} → (E → ℕ) → Role → List E → List E → Type 0
SameOwn maker (Plays n) history seen = entries_by maker n history ≡ entries_by maker n seen
SameOwn maker (Admits m k) history seen = Unit {0}
SameOwn maker Spent history seen = Unit {0}

-- each pass that was made is out or was given back
abbrev pub Balance : {E : Type 0} → Role → List (GivenBack E) → Type 0
Balance (Admits m k) given = k + length given ≡ m
Balance (Plays n) given = Unit {0}
Balance Spent given = Unit {0}

-- a pass that was given back, whose list the keeper has seen
pub record Returned {E : Type 0} (maker : E → ℕ) (history : List E) (made : ℕ) (seat_of : ℕ → ℕ) (seen : List E) (g : GivenBack E) : Type 0 where
  pub made_before : given_number g < made
  pub is_back : seat_of (given_number g) ≡ 0
  pub begins : Begins seen (given_list g)
  pub own_entries : entries_by maker (given_number g) history ≡ entries_by maker (given_number g) (given_list g)

-- the view of the seat that has the turn
pub record Holding {E F : Type 0} (d : Facts E) (seat : ℕ) (v : View E F) : Type 0 where
  pub turn : d.turn ≡ 1
  pub holder : seat ≡ d.holder
  pub history : d.history ≡ v.seen
  pub mark : d.mark ≡ v.mark

-- what one seat's view says
pub record SeatFits {E F : Type 0} (maker : E → ℕ) (frame : F) (d : Facts E) (seat : ℕ) (v : View E F) : Type 0 where
  pub begins : Begins d.history v.seen
  pub framed : is_live v.role ≡ true → v.frame ≡ Some frame
  pub met : Met v.mark d.mark
  pub live : v.holds ≡ true → is_live v.role ≡ true
  pub holding : v.holds ≡ true → Holding d seat v
  pub knows : Knows d.made d.out d.seat_of seat v.role
  pub same_own : SameOwn maker v.role d.history v.seen
  pub balance : Balance v.role v.given
  pub differ : AllPairs HasOtherNumber v.given
  pub returned : All (Returned maker d.history d.made d.seat_of v.seen) v.given
  pub marks : All (HasMet v.mark) v.given
  pub earlier : Begins v.seen v.earlier

-- the object is at home, and stands for the history and the mark
pub record AtHome {O E F : Type 0} (entries : O → List E) (marked : O → Option ℕ) (frame_of : O → F) (frame : F) (d : Facts E)
    (homes : List (mathlib.Core.Option.Option (Option O))) : Type 0 where
  pub object : O
  pub home : homes ≡ some (Some object) ∷ []
  pub entries_are : entries object ≡ d.history
  pub mark_is : marked object ≡ d.mark
  pub frame_is : frame_of object ≡ frame

-- the seat's view says that it has the turn
pub record IsHeldBy {E F : Type 0} (holder : ℕ) (views : List (View E F)) : Type 0 where
  pub view : View E F
  pub there : get_elem? views holder ≡ some view
  pub holds : view.holds ≡ true

-- the rule
pub record IsRuleKept {O E F : Type 0} (entries : O → List E) (maker : E → ℕ) (marked : O → Option ℕ) (frame_of : O → F) (frame : F)
    (s : State (Option O) (View E F)) : Type 0 where
  pub facts : Facts E
  pub words : s.words ≡ facts.turn ∷ length_word (length facts.history) facts.mark ∷ []
  pub one_slot : length s.homes ≡ 1
  pub free_or_held : facts.turn < 2
  pub at_home : facts.turn ≡ 0 → AtHome entries marked frame_of frame facts s.homes
  pub held : facts.turn ≡ 1 → IsHeldBy facts.holder s.views
  pub numbers : All (λ e. maker e < facts.made) facts.history
  pub counted : pass_count s.views ≡ facts.out
  pub each_seat : (j : ℕ) (v : View E F) → get_elem? s.views j ≡ some v → SeatFits maker frame facts j v

abbrev pub more_out : Role → Role
more_out (Admits m k) = Admits (m + 1) (k + 1)
more_out (Plays n) = Plays n
more_out Spent = Spent

abbrev pub fewer_out : Role → Role
fewer_out (Admits m k) = Admits m (k - 1)
fewer_out (Plays n) = Plays n
fewer_out Spent = Spent

-- the role of the pass that is made next
abbrev pub next_pass : Role → Role
next_pass (Admits m k) = Plays m
next_pass (Plays n) = Spent
next_pass Spent = Spent

-- what a seat gives back
abbrev pub given_by_role : {E : Type 0} → Role → List E → Option ℕ → List (GivenBack E)
given_by_role (Plays n) seen mark = (n, seen, mark) ∷ []
given_by_role (Admits m k) seen mark = []
given_by_role Spent seen mark = []

module _ {E F : Type 0} where
  -- the keeper's view at the start
  abbrev pub opening_view : F → View E F
  opening_view frame = record { role = Admits 0 0; holds = false; seen = []; mark = None; frame = Some frame; earlier = []; given = [] }

  -- the view of a seat that was joined
  abbrev pub spent_view : View E F
  spent_view = record { role = Spent; holds = false; seen = []; mark = None; frame = None; earlier = []; given = [] }

  -- the view with this history and mark, which has the turn or not
  abbrev pub seeing : Bool → List E → Option ℕ → View E F → View E F
  seeing holds seen mark v = record { role = v.role; holds = holds; seen = seen; mark = mark; frame = v.frame; earlier = v.earlier; given = v.given }

  -- the keeper's view once it has admitted one more pass
  abbrev pub admitting : View E F → View E F
  admitting v = record { role = more_out v.role; holds = false; seen = v.seen; mark = v.mark; frame = v.frame; earlier = v.earlier; given = v.given }

  -- the view of the pass that the keeper admits
  abbrev pub admitted : View E F → View E F
  admitted v = record { role = next_pass v.role; holds = false; seen = v.seen; mark = v.mark; frame = v.frame; earlier = []; given = [] }

  -- the keeper's view once a pass was given back; it remembers what it had seen before
  abbrev pub taking_back : View E F → View E F → View E F
  taking_back v w = record { role = fewer_out v.role; holds = false; seen = longer v.seen w.seen; mark = first_mark v.mark w.mark; frame = v.frame; earlier = v.seen; given = v.given ++ given_by_role w.role w.seen w.mark }

abbrev pub Sat : Type 0 → Type 0 → Type 0 → Type 0
Sat O E F = Me (Option O) (View E F)

-- the seat does not have the turn
pub record IsSeatReady {O E F : Type 0} (role : Role) (me : Sat O E F) : Type 0 where
  pub role_is : me.0.role ≡ role
  pub idle : me.0.holds ≡ false
  pub bare : me.1 ≡ []

-- the object as the seat with the view v found it, which stands for all of the history
pub record Found {O E F : Type 0} (entries : O → List E) (maker : E → ℕ) (marked : O → Option ℕ) (frame_of : O → F) (v : View E F) (o : O) : Type 0 where
  pub begins : Begins (entries o) v.seen
  pub met : Met v.mark (marked o)
  pub framed : v.frame ≡ Some (frame_of o)
  pub same_own : SameOwn maker v.role (entries o) v.seen
  pub given : All (HasGiven maker (entries o)) v.given
  pub marks : All (HasMet (marked o)) v.given
  pub numbers : (made out : ℕ) → v.role ≡ Admits made out → All (λ e. maker e < made) (entries o)

-- what the object may have become in the turn of the pass n, which found the history and the mark
abbrev pub MayBecome : {E : Type 0} → (E → ℕ) → ℕ → List E → Option ℕ → List E → Option ℕ → Type 0
MayBecome maker n before mark after mark' =
    (AddsOne maker n before after × (mark ≡ None) × (mark' ≡ None)) ⊎ ((after ≡ before) × MaySetMark before mark mark')

-- the object that the holder gives back: it stands for what the view says
pub record IsInHand {O E F : Type 0} (entries : O → List E) (marked : O → Option ℕ) (frame_of : O → F) (v : View E F) (o : O) : Type 0 where
  pub holds : v.holds ≡ true
  pub entries_are : entries o ≡ v.seen
  pub mark_is : marked o ≡ v.mark
  pub framed : v.frame ≡ Some (frame_of o)

module _ {O E F : Type 0} (entries : O → List E) (maker : E → ℕ) (marked : O → Option ℕ) (frame_of : O → F) where
  -- the turn was free: the seat has it and the object, and has seen all of the history
  pub record TakesTurn (me after : Sat O E F) : Type 0 where
    pub object : O
    pub slot : after.1 ≡ (0, Some object) ∷ []
    pub view : after.0 ≡ seeing true (entries object) (marked object) me.0
    pub found : Found entries maker marked frame_of me.0 object

  -- an exchange of the turn, free to held. With no pass out the keeper finds it free.
  abbrev pub takes_turn : Step (Option O) → Sat O E F → ℕ → Sat O E F → Type 0
  takes_turn st me r after = (r ≡ 0 → TakesTurn me after) × (r ≢ 0 → after ≡ me) × ((made : ℕ) → me.0.role ≡ Admits made 0 → r ≡ 0)

  -- a store of the length and the mark: the holder's list becomes that of the object in hand
  abbrev pub publishes : Step (Option O) → Sat O E F → ℕ → Sat O E F → Type 0
  publishes st me r after = (o : O) → me.1 ≡ (0, Some o) ∷ [] → after ≡ (seeing true (entries o) (marked o) me.0, me.1)

  -- a store of the turn, held to free
  abbrev pub frees_turn : Step (Option O) → Sat O E F → ℕ → Sat O E F → Type 0
  frees_turn st me r after = after ≡ (seeing false me.0.seen me.0.mark me.0, [])

-- the seat has seen all of the history
pub record Looks {E F : Type 0} (maker : E → ℕ) (v : View E F) (found : ℕ) (w : View E F) : Type 0 where
  pub view : w ≡ seeing false w.seen w.mark v
  pub word : found ≡ length_word (length w.seen) w.mark
  pub begins : Begins w.seen v.seen
  pub met : Met v.mark w.mark
  pub same_own : SameOwn maker v.role w.seen v.seen

-- a load of the length and the mark
abbrev pub looks : {O E F : Type 0} → (E → ℕ) → Step (Option O) → Sat O E F → ℕ → Sat O E F → Type 0
looks maker st me r after = Looks maker me.0 r after.0 × (after.1 ≡ me.1)

-- what a keeper's view says by itself
pub record ViewTells {E F : Type 0} (maker : E → ℕ) (v : View E F) : Type 0 where
  pub balance : Balance v.role v.given
  pub differ : AllPairs HasOtherNumber v.given
  pub given : All (HasGiven maker v.seen) v.given
  pub marks : All (HasMet v.mark) v.given
  pub earlier : Begins v.seen v.earlier

-- a load of the turn by the keeper, after a join
abbrev pub tells : {O E F : Type 0} → (E → ℕ) → Step (Option O) → Sat O E F → ℕ → Sat O E F → Type 0
tells maker st me r after = (after ≡ me) × ViewTells maker me.0
