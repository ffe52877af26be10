-- The lists that clients can take back and redo, and the marks of registers. What a list is stays open: it may be one that is seen in a text,
-- or one as it is stored.
use Rattle.std.specs.Prelude.{ℕ, ◌-◌, Bool, not, ◌==◌, List, [], ◌∷◌, ◌++◌, length, take, drop, map, filter, slice_get, option_map, find}
use Rattle.std.specs.declared.option.Option.{Option}
use Rattle.tables.specs.Tables.{first_where, put_where}

-- a client's trail: the lists that it had before the one that it has, the oldest first, and those that it took back, the nearest first
pub record Trail (A : Type 0) : Type 0 where
  pub who : ℕ
  pub past : List A
  pub ahead : List A

-- the mark of a register: a list
pub record Mark (A : Type 0) : Type 0 where
  pub register : ℕ
  pub list : A

-- with each list of a trail, or that of a mark, made another
abbrev pub trail_with : {A B : Type 0} → (A → B) → Trail A → Trail B
trail_with f t = record { who = t.who; past = map f t.past; ahead = map f t.ahead }

abbrev pub mark_with : {A B : Type 0} → (A → B) → Mark A → Mark B
mark_with f m = record { register = m.register; list = f m.list }

-- whether a trail is a client's
abbrev pub is_trail_of : {A : Type 0} → ℕ → Trail A → Bool
is_trail_of who t = t.who == who

-- the trail of a client that never had another list
abbrev pub no_trail : {A : Type 0} → ℕ → Trail A
no_trail who = record { who = who; past = []; ahead = [] }

-- a client's trail
abbrev pub trail_of : {A : Type 0} → ℕ → List (Trail A) → Trail A
trail_of who trails = first_where (is_trail_of who) (no_trail who) trails

-- the trails with one in place of that of its client
abbrev pub with_trail : {A : Type 0} → Trail A → List (Trail A) → List (Trail A)
with_trail t trails = put_where (is_trail_of t.who) t trails

-- the list that a client had last, where it had another one than it has; and the nearest one that it took back, where there is one
abbrev pub last_before : {A : Type 0} → ℕ → List (Trail A) → Option A
last_before who trails = slice_get (trail_of who trails).past (length (trail_of who trails).past - 1)

abbrev pub next_ahead : {A : Type 0} → ℕ → List (Trail A) → Option A
next_ahead who trails = slice_get (trail_of who trails).ahead 0

-- a client went on from the list that it had to another one: that list goes behind those that it had before, of which some are kept, and what
-- it took back is forgotten
abbrev pub gone_on : {A : Type 0} → (List A → List A) → ℕ → A → List (Trail A) → List (Trail A)
gone_on kept who had trails = with_trail (record { who = who; past = kept ((trail_of who trails).past ++ had ∷ []); ahead = [] }) trails

-- it went back from the list that it had to the one before it
abbrev pub gone_back : {A : Type 0} → ℕ → A → List (Trail A) → List (Trail A)
gone_back who had trails = with_trail (record { who = who; past = take (length (trail_of who trails).past - 1) (trail_of who trails).past; ahead = had ∷ (trail_of who trails).ahead }) trails

-- it went from the list that it had to the nearest one that it took back
abbrev pub gone_forward : {A : Type 0} → (List A → List A) → ℕ → A → List (Trail A) → List (Trail A)
gone_forward kept who had trails = with_trail (record { who = who; past = kept ((trail_of who trails).past ++ had ∷ []); ahead = drop 1 (trail_of who trails).ahead }) trails

-- the trails without that of a client
abbrev pub left_off : {A : Type 0} → ℕ → List (Trail A) → List (Trail A)
left_off who trails = filter (λ t. not (is_trail_of who t)) trails

-- whether a mark is a register's
abbrev pub is_mark_of : {A : Type 0} → ℕ → Mark A → Bool
is_mark_of register m = m.register == register

-- the list of a register's mark, where it has one
abbrev pub mark_of : {A : Type 0} → ℕ → List (Mark A) → Option A
mark_of register marks = option_map (λ m. m.list) (find (is_mark_of register) marks)

-- the marks with a list as that of a register, and without it
abbrev pub marked : {A : Type 0} → ℕ → A → List (Mark A) → List (Mark A)
marked register list marks = put_where (is_mark_of register) (record { register = register; list = list }) marks

abbrev pub unmarked : {A : Type 0} → ℕ → List (Mark A) → List (Mark A)
unmarked register marks = filter (λ m. not (is_mark_of register m)) marks
