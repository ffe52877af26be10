-- What contracts see of a desk, a pass and a keeper, and what a call does to them.
use Rattle.std.specs.Prelude.{◌≡◌, ℕ, ◌<◌, List, [], ◌∷◌, ◌++◌, All, Option, Some, None, Result, Ok, Err}
use Rattle.atomic_table.specs.Seated.{TableId}
use Rattle.session_turns.specs.Growth.{Begins}
use Rattle.session_desk.specs.Histories.{entries_by, Met, MaySetMark, GivenBack, HasGiven, HasMet}

-- which desk it is, and the frame of its object
pub record Home (F : Type 0) : Type 0 where
  pub table : TableId
  pub frame : F

-- the desk of a token, as the token knows it
pub record DeskPlace (F : Type 0) : Type 0 where
  pub table : TableId
  pub frame : Option F

-- the token is of this desk
pub record IsOf {F : Type 0} (place : DeskPlace F) (home : Home F) : Type 0 where
  pub table : place.table ≡ home.table
  pub frame : place.frame ≡ Some home.frame

-- a pass: its number, the history that it has seen, and the mark that it met
pub record PassView (E F : Type 0) : Type 0 where
  pub place : DeskPlace F
  pub number : ℕ
  pub seen : List E
  pub mark : Option ℕ

-- a keeper: how many passes were admitted, those given back, the history that it has seen, and the mark that it met
pub record KeeperView (E F : Type 0) : Type 0 where
  pub place : DeskPlace F
  pub made : ℕ
  pub given : List (GivenBack E)
  pub seen : List E
  pub mark : Option ℕ

-- the same pass of the same desk
pub record IsSamePass {E F : Type 0} (before after : PassView E F) : Type 0 where
  pub place : after.place ≡ before.place
  pub number : after.number ≡ before.number

-- the same keeper, with as many passes admitted and the same given back
pub record IsSameKeeper {E F : Type 0} (before after : KeeperView E F) : Type 0 where
  pub place : after.place ≡ before.place
  pub made : after.made ≡ before.made
  pub given : after.given ≡ before.given

-- a pass has seen more of the history: it has no new entry of its own, and keeps its mark or met one
pub record SeesMore {E F : Type 0} (maker : E → ℕ) (before after : PassView E F) : Type 0 where
  pub begins : Begins after.seen before.seen
  pub own_entries : entries_by maker before.number after.seen ≡ entries_by maker before.number before.seen
  pub mark : Met before.mark after.mark

-- a step that added an entry: entries of others came first, and the reply is that of the object which stood for all of these
pub record PassAdds {E F M R X : Type 0} (maker : E → ℕ)
    (answers : List E → Option ℕ → ℕ → M → Result R X → List E → Option ℕ → Type 0)
    (before after : PassView E F) (mv : M) (reply : R) : Type 0 where
  pub between : List E
  pub entry : E
  pub others : entries_by maker before.number between ≡ []
  pub mine : maker entry ≡ before.number
  pub seen : after.seen ≡ (before.seen ++ between) ++ entry ∷ []
  pub own_entries : entries_by maker before.number after.seen ≡ entries_by maker before.number before.seen ++ entry ∷ []
  pub answer : answers (before.seen ++ between) None before.number mv (Ok reply) after.seen None
  pub unmarked : (before.mark ≡ None) × (after.mark ≡ None)

-- a step that was refused: entries of others came, and the object that stood for all of these gave the fault
pub record PassRefuses {E F M R X : Type 0} (maker : E → ℕ)
    (answers : List E → Option ℕ → ℕ → M → Result R X → List E → Option ℕ → Type 0)
    (before after : PassView E F) (mv : M) (fault : X) : Type 0 where
  pub between : List E
  pub marked : Option ℕ
  pub others : entries_by maker before.number between ≡ []
  pub seen : after.seen ≡ before.seen ++ between
  pub own_entries : entries_by maker before.number after.seen ≡ entries_by maker before.number before.seen
  pub met : Met before.mark marked
  pub answer : answers after.seen marked before.number mv (Err fault) after.seen after.mark
  pub mark : MaySetMark after.seen marked after.mark

-- the history of a closed desk: it begins with all that the keeper saw, has under each number given back just the entries of that
-- pass, and has no entry of a number that was not admitted; the mark is the one that the keeper or a pass had met
pub record Closes {E F : Type 0} (maker : E → ℕ) (keeper : KeeperView E F) (history : List E) (marked : Option ℕ) : Type 0 where
  pub begins : Begins history keeper.seen
  pub given : All (HasGiven maker history) keeper.given
  pub marks : All (HasMet marked) keeper.given
  pub numbers : All (λ e. maker e < keeper.made) history
  pub mark : Met keeper.mark marked

-- a keeper has seen more of the history, in which those given back have no new entry, and keeps its mark or met one; so did they
pub record SeesMoreOf {E F : Type 0} (maker : E → ℕ) (before after : KeeperView E F) : Type 0 where
  pub begins : Begins after.seen before.seen
  pub given : All (HasGiven maker after.seen) before.given
  pub marks : All (HasMet after.mark) before.given
  pub mark : Met before.mark after.mark
