-- From jobs that were admitted, and what they gave, to the rows of a session.
use Rattle.std.proofs.Common.{◌≡◌, ◌≢◌, ⊎_elim, ◌<◌, ◌+◌, ℕ, suc, Bool, true, false, List, [], ◌∷◌, ◌++◌, length, map, All, Option, Some, None, IfSome, Err, refl, sym, ap, ◌∙◌, subst, arith, append_assoc, length-append, if◌then◌else◌, ◌==◌, eq-eqb}
use Rattle.std.specs.Prelude.{IsSome}
use Rattle.std.proofs.lemmas.List.Elements.{All-nil, All-cons, All-head, All-tail}
use Rattle.session_turns.specs.Growth.{Begins}
use Rattle.client_links.specs.Wires.{Wire, IsFresh}
use Rattle.client_links.specs.Doors.{Door, counted_on, led_by, IsNextOf, NoneIsToCome}
use Rattle.jobs.specs.Meets.{Meet}
use Rattle.session_desk.specs.Histories.{entries_by as own_entries, GivenBack, HasGiven, HasMet, Met, first_mark}
use Rattle.session_desk.specs.Tokens.{Home, DeskPlace, IsOf, PassView, KeeperView, Closes}
use Rattle.session_desk.proofs.HistoryLemmas.{none_between, own_beyond, starts_through}
use Rattle.session_turns.specs.Histories.{own}
use Rattle.session_events.specs.declared.event.Entry.{Entry}
use Rattle.session_events.specs.Legal.{IsLegal}
use Rattle.session_events.specs.Meaning.{Gives, rules}
use Rattle.link_lines.specs.declared.ended.Ended.{Ended}
use Rattle.kak_engine.specs.Steps.{given_by}
use Rattle.engine_desk.specs.Sharing.{Frame, Shared, frame_of}
use Rattle.session_server.specs.Rows.{ServedRow, IsLinkReady, ServesLink}
use Rattle.session_server.specs.declared.status.ServerStatus.{ServerStatus}
use Rattle.session_server.specs.declared.status.ServerStatus.TheVariants.{Ended as AllLeft, Usage, AcceptFault, SpawnFault, Broken, LinksFull, BindFault, NoMemory}
use Rattle.session_server.specs.Sessions.{RowsFrom, CameInOrder, SessionStands, SessionCausedBy, NoneWaits, IfServed}
use Rattle.session_server.specs.Hosting.{HostView, IsHosting, LooksIn, keeper_pass, JobView, Admits, IsLinkRefused, IsHandedBack, IsAdmitted, Admitted, StopsHostingFor, IsUnused, noted, serving_end, passes_back, KeepsMark}
use Rattle.session_server.proofs.GoneLemmas.{stays-away}

-- the file that the next client opens: the one that was named, until somebody was let in
abbrev pub file_left : {J : Type 0} → Option (List ℕ) → List J → Option (List ℕ)
file_left file [] = file
file_left file (job ∷ jobs) = None

pub left-behind : {J : Type 0} (file : Option (List ℕ)) (jobs : List J) (job : J) → file_left file (jobs ++ job ∷ []) ≡ None
left-behind file [] job = refl
left-behind file (j ∷ jobs) job = refl

-- so many, and one more
pub counted-one : (count now : Option ℕ) (n : ℕ) → now ≡ counted_on count n → counted_on now 1 ≡ counted_on count (n + 1)
counted-one count now n e = ap (λ m. counted_on m 1) e ∙ on count n
  where
    on : (count : Option ℕ) (n : ℕ) → counted_on (counted_on count n) 1 ≡ counted_on count (n + 1)
    on None n = refl
    on (Some m) n = ap (λ k. Some k) (omega arith)

-- nothing came yet
pub led-none : (to_come : Option (List Wire)) → to_come ≡ led_by [] to_come
led-none None = refl
led-none (Some links) = refl

-- one more link came
pub led-one : (links : List Wire) (link : Wire) (before mid now : Option (List Wire)) → before ≡ led_by links mid → IsNextOf link mid now → before ≡ led_by (links ++ link ∷ []) now
led-one links link before None None e next = e
led-one links link before (Some left) (Some rest) e next = e ∙ ap (λ ls. Some (links ++ ls)) next ∙ ap (λ ls. Some ls) (sym (append_assoc links (link ∷ []) rest))
led-one links link before None (Some rest) e next = absurd next
led-one links link before (Some left) None e next = absurd next

-- and it wasn't let in, or nobody could be made to serve it
pub refused-order : (host : HostView) (why : ServerStatus) (links : List Wire) (link : Wire) (before mid now : Option (List Wire)) → IsLinkRefused host why → before ≡ led_by links mid → IsNextOf link mid now → CameInOrder why links before now
refused-order host LinksFull links link before mid now h e next = (link, led-one links link before mid now e next)
refused-order host NoMemory links link before mid now h e next = (link, led-one links link before mid now e next)
refused-order host AllLeft links link before mid now h e next = absurd h
refused-order host AcceptFault links link before mid now h e next = absurd h
refused-order host SpawnFault links link before mid now h e next = absurd h
refused-order host (Broken at) links link before mid now h e next = absurd h
refused-order host Usage links link before mid now h e next = absurd h
refused-order host BindFault links link before mid now h e next = absurd h

pub handed-order : (why : ServerStatus) (links : List Wire) (link : Wire) (before mid now : Option (List Wire)) → IsHandedBack why → before ≡ led_by links mid → IsNextOf link mid now → CameInOrder why links before now
handed-order SpawnFault links link before mid now h e next = (link, led-one links link before mid now e next)
handed-order NoMemory links link before mid now h e next = (link, led-one links link before mid now e next)
handed-order AllLeft links link before mid now h e next = absurd h
handed-order AcceptFault links link before mid now h e next = absurd h
handed-order LinksFull links link before mid now h e next = absurd h
handed-order (Broken at) links link before mid now h e next = absurd h
handed-order Usage links link before mid now h e next = absurd h
handed-order BindFault links link before mid now h e next = absurd h

-- where a look told that the session is over or broken, none came behind the others, and none waits
pub idle-order : (why : ServerStatus) (seen : List Entry) (mark : Option ℕ) (links : List Wire) (before mid now : Option (List Wire)) → LooksIn (Err why) seen mark → before ≡ led_by links mid → now ≡ mid → CameInOrder why links before now
idle-order AllLeft seen mark links before mid now l e same = e ∙ ap (λ q. led_by links q) (sym same)
idle-order (Broken at) seen mark links before mid now l e same = e ∙ ap (λ q. led_by links q) (sym same)
idle-order AcceptFault seen mark links before mid now l e same = absurd l
idle-order SpawnFault seen mark links before mid now l e same = absurd l
idle-order LinksFull seen mark links before mid now l e same = absurd l
idle-order NoMemory seen mark links before mid now l e same = absurd l
idle-order Usage seen mark links before mid now l e same = absurd l
idle-order BindFault seen mark links before mid now l e same = absurd l

pub idle-waits : (why : ServerStatus) (seen : List Entry) (mark : Option ℕ) (first old new : Door) → LooksIn (Err why) seen mark → old.listens ≡ first.listens → (IsSome old.listens → NoneIsToCome old) → new.to_come ≡ old.to_come → IsSome first.listens → NoneWaits why new
idle-waits AllLeft seen mark first old new l e none same some = subst (λ (q : Option (List Wire)). IfSome q (λ links. links ≡ [])) (sym same) (none (subst (λ (q : Option (List ℕ)). IsSome q) (sym e) some))
idle-waits (Broken at) seen mark first old new l e none same some = subst (λ (q : Option (List Wire)). IfSome q (λ links. links ≡ [])) (sym same) (none (subst (λ (q : Option (List ℕ)). IsSome q) (sym e) some))
idle-waits AcceptFault seen mark first old new l e none same some = absurd l
idle-waits SpawnFault seen mark first old new l e none same some = absurd l
idle-waits LinksFull seen mark first old new l e none same some = absurd l
idle-waits NoMemory seen mark first old new l e none same some = absurd l
idle-waits Usage seen mark first old new l e none same some = absurd l
idle-waits BindFault seen mark first old new l e none same some = absurd l

-- what stands for one more
pub map-one : {X Y : Type 0} (f : X → Y) (xs : List X) (x : X) → map f (xs ++ x ∷ []) ≡ map f xs ++ f x ∷ []
map-one f [] x = refl
map-one f (y ∷ ys) x = ap (λ r. f y ∷ r) (map-one f ys x)

abbrev pub whose : Entry → ℕ
whose entry = entry.who

-- entries of others are nothing that the client did
foreign : (gives : Gives) (who : ℕ) (entries : List Entry) → own_entries whose who entries ≡ [] → own (rules gives) who entries ≡ []
foreign gives who [] h = refl
foreign gives who (e ∷ entries) h = by (e.who == who) (foreign gives who entries) h
  where
    by : (t : Bool) → (own_entries whose who entries ≡ [] → own (rules gives) who entries ≡ []) → (if t then e ∷ own_entries whose who entries else own_entries whose who entries) ≡ [] → (if t then e.event ∷ own (rules gives) who entries else own (rules gives) who entries) ≡ []
    by true f g = cc
    by false f g = f g

-- who did nothing has no entry
pub never-own : (gives : Gives) (who : ℕ) (entries : List Entry) → own (rules gives) who entries ≡ [] → own_entries whose who entries ≡ []
never-own gives who [] h = refl
never-own gives who (e ∷ entries) h = by (e.who == who) (never-own gives who entries) h
  where
    by : (t : Bool) → (own (rules gives) who entries ≡ [] → own_entries whose who entries ≡ []) → (if t then e.event ∷ own (rules gives) who entries else own (rules gives) who entries) ≡ [] → (if t then e ∷ own_entries whose who entries else own_entries whose who entries) ≡ []
    by true f g = cc
    by false f g = f g

-- a link that came may be served under the next pass
pub ready-next : (home shared : Home Frame) (keeper : KeeperView Entry Frame) (admitted : ℕ) (pass : PassView Entry Frame) (link : Wire) → IsHosting home keeper admitted → pass ≡ keeper_pass keeper → shared ≡ home → IsFresh link → IsLinkReady shared pass link
ready-next home shared keeper admitted pass link hosting is same fresh =
    subst (λ (p : PassView Entry Frame). IsLinkReady shared p link) (sym is) (record {
      own = subst (λ (h : Home Frame). IsOf keeper.place h) (sym same) hosting.own;
      new = foreign given_by keeper.made keeper.seen (own_beyond whose keeper.made keeper.made keeper.seen hosting.numbers (omega arith));
      fresh = fresh;
    })

module _ {X : Type 0} (P : X → Type 0) where
  all-front : (xs ys : List X) → All P (xs ++ ys) → All P xs
  all-front [] ys all = All-nil P
  all-front (x ∷ xs) ys all = All-cons P x xs (All-head P x (xs ++ ys) all) (all-front xs ys (All-tail P x (xs ++ ys) all))

  all-behind : (xs ys : List X) → All P (xs ++ ys) → All P ys
  all-behind [] ys all = all
  all-behind (x ∷ xs) ys all = all-behind xs ys (All-tail P x (xs ++ ys) all)

length-map : {X Y : Type 0} (f : X → Y) (xs : List X) → length (map f xs) ≡ length xs
length-map f [] = refl
length-map f (x ∷ xs) = ap (λ n. suc n) (length-map f xs)

module _ {J : Type 0} (view : J → JobView) (home : Home Frame) (place : DeskPlace Frame) where
  -- one more was let in
  pub admitted-one : (who : ℕ) (file : Option (List ℕ)) (jobs : List J) (job : J) → Admitted view home place who file jobs → IsAdmitted home place (who + length jobs) (file_left file jobs) (view job) → Admitted view home place who file (jobs ++ job ∷ [])
  admitted-one who file [] job all one = (record { home_is = one.home_is; place_is = one.place_is; number_is = one.number_is ∙ omega arith; file_is = one.file_is }, tt)
  admitted-one who file (j ∷ jobs) job all one = (all.0, admitted-one (who + 1) None jobs job all.1 (as-next jobs one))
    where
      left-none : (jobs : List J) → file_left {J = J} None jobs ≡ None
      left-none [] = refl
      left-none (j ∷ jobs) = refl

      as-next : (jobs : List J) → IsAdmitted home place (who + length (j ∷ jobs)) None (view job) → IsAdmitted home place (who + 1 + length jobs) (file_left None jobs) (view job)
      as-next jobs one = record { home_is = one.home_is; place_is = one.place_is; number_is = one.number_is ∙ omega arith; file_is = one.file_is ∙ sym (left-none jobs) }

-- the job of a client that was let in has the next number, and the file that is left
pub as-admitted : {J : Type 0} (home : Home Frame) (place : DeskPlace Frame) (file : Option (List ℕ)) (jobs : List J) (old new : HostView) (job : JobView) → Admits old new job → old.home ≡ home → old.keeper.place ≡ place → old.keeper.made ≡ length jobs → old.file ≡ file_left file jobs → IsAdmitted home place (0 + length jobs) (file_left file jobs) job
as-admitted home place file jobs old new job a at here made left = record {
  home_is = ap (λ (j : JobView). j.home) a.job_is ∙ at;
  place_is = ap (λ (j : JobView). j.pass.place) a.job_is ∙ here;
  number_is = ap (λ (j : JobView). j.pass.number) a.job_is ∙ made ∙ omega arith;
  file_is = ap (λ (j : JobView). j.file) a.job_is ∙ left;
}

-- there are as many results as jobs
pub length-met : {J G : Type 0} (gives : J → G → Type 0) (jobs : List J) (results : List G) → Meet gives jobs results → length results ≡ length jobs
length-met gives [] [] met = refl
length-met gives (j ∷ jobs) (r ∷ results) met = ap (λ n. suc n) (length-met gives jobs results met.1)
length-met gives [] (r ∷ results) met = absurd met
length-met gives (j ∷ jobs) [] met = absurd met

-- the entries of all numbers but the last are below it
below-last : (n : ℕ) (xs : List Entry) → All (λ e. whose e < n + 1) xs → own_entries whose n xs ≡ [] → All (λ e. whose e < n) xs
below-last n [] all none = All-nil (λ e. whose e < n)
below-last n (x ∷ xs) all none = by (whose x == n) refl none (below-last n xs (All-tail (λ e. whose e < n + 1) x xs all))
  where
    by : (t : Bool) → (whose x == n) ≡ t → (if t then x ∷ own_entries whose n xs else own_entries whose n xs) ≡ [] → (own_entries whose n xs ≡ [] → All (λ e. whose e < n) xs) → All (λ e. whose e < n) (x ∷ xs)
    by true is g rest = cc
    by false is g rest =
        let other : whose x ≢ n = λ e. (let h : false ≡ true = sym is ∙ eq-eqb (whose x) n e in cc) in
        let low : whose x < n + 1 = All-head (λ e. whose e < n + 1) x xs all in
        All-cons (λ e. whose e < n) x xs (omega arith) (rest g)

module _ {J S : Type 0} (view : J → JobView) (came : J → Wire) (closed : S → Wire) (home : Home Frame) (place : DeskPlace Frame) where
  -- what a job gives
  abbrev pub GivesOf : J → Ended × PassView Entry Frame × S → Type 0
  GivesOf job given = ServesLink (view job).home.frame.limit (view job).file (view job).pass given.0 given.1 (came job) (closed given.2)

  -- all passes that come back are of the desk
  pub places-back : (who : ℕ) (file : Option (List ℕ)) (jobs : List J) (results : List (Ended × PassView Entry Frame × S)) → Meet GivesOf jobs results → Admitted view home place who file jobs → All (λ r. r.1.place ≡ place) results
  places-back who file [] [] met all = All-nil (λ r. r.1.place ≡ place)
  places-back who file (j ∷ jobs) (r ∷ results) met all = All-cons (λ r. r.1.place ≡ place) r results (met.0.same.place ∙ all.0.place_is) (places-back (who + 1) None jobs results met.1 all.1)
  places-back who file [] (r ∷ results) met all = absurd met
  places-back who file (j ∷ jobs) [] met all = absurd met

  -- the row of a link, by the closed history
  row-of : (history : List Entry) (mark : Option ℕ) (who : ℕ) (file : Option (List ℕ)) (job : J) (r : Ended × PassView Entry Frame × S) → GivesOf job r → IsAdmitted home place who file (view job) → HasGiven whose history (noted r) → HasMet mark (noted r)
      → ServedRow home.frame.limit file who history mark r.0 (came job) (closed r.2)
  row-of history mark who file job r gives one given met =
      let pass = (view job).pass in let rest = given.begins.0 in
      let none : own_entries whose r.1.number rest ≡ [] = none_between whose r.1.number history r.1.seen given.begins given.own_entries in
      let others : own (rules given_by) pass.number rest ≡ [] = foreign given_by pass.number rest (subst (λ n. own_entries whose n rest ≡ []) gives.same.number none) in
      let row : ServedRow (view job).home.frame.limit (view job).file pass.number history mark r.0 (came job) (closed r.2) =
      record { front = r.1.seen; met = r.1.mark; begins = given.begins; alone = others; marked = met; fresh = gives.fresh; link = gives.link } in
      let by_number = subst (λ n. ServedRow (view job).home.frame.limit (view job).file n history mark r.0 (came job) (closed r.2)) one.number_is row in
      let by_file = subst (λ (f : Option (List ℕ)). ServedRow (view job).home.frame.limit f who history mark r.0 (came job) (closed r.2)) one.file_is by_number in
      subst (λ (h : Home Frame). ServedRow h.frame.limit file who history mark r.0 (came job) (closed r.2)) one.home_is by_file

  rows-of : (history : List Entry) (mark : Option ℕ) (who : ℕ) (file : Option (List ℕ)) (jobs : List J) (results : List (Ended × PassView Entry Frame × S)) → Meet GivesOf jobs results → Admitted view home place who file jobs → All (HasGiven whose history) (map noted results) → All (HasMet mark) (map noted results)
      → RowsFrom closed home.frame.limit history mark who file (map came jobs) (map serving_end results)
  rows-of history mark who file [] [] met all given marks = tt
  rows-of history mark who file (j ∷ jobs) (r ∷ results) met all given marks = (
    row-of history mark who file j r met.0 all.0 (All-head (HasGiven whose history) (noted r) (map noted results) given) (All-head (HasMet mark) (noted r) (map noted results) marks),
    rows-of history mark (who + 1) None jobs results met.1 all.1 (All-tail (HasGiven whose history) (noted r) (map noted results) given) (All-tail (HasMet mark) (noted r) (map noted results) marks),
  )
  rows-of history mark who file [] (r ∷ results) met all given marks = absurd met
  rows-of history mark who file (j ∷ jobs) [] met all given marks = absurd met

-- nobody is in a history but those whose links were served
numbers-below : (place : DeskPlace Frame) (history : List Entry) (made count : ℕ) (back : Option (PassView Entry Frame)) → made ≡ count + length (passes_back back) → IfSome back (IsUnused place count) → All (HasGiven whose history) (passes_back back) → All (λ e. whose e < made) history → All (λ e. whose e < count) history
numbers-below place history made count None e unused given all = let same : made ≡ count = omega arith in subst (λ n. All (λ e. whose e < n) history) same all
numbers-below place history made count (Some pass) e unused given all =
    let one = All-head (HasGiven whose history) (pass.number, pass.seen, pass.mark) [] given in
    let none : own_entries whose count history ≡ [] = subst (λ n. own_entries whose n history ≡ []) unused.1 (one.own_entries ∙ unused.2) in
    let same : made ≡ count + 1 = omega arith in
    below-last count history (subst (λ n. All (λ e. whose e < n) history) same all) none

module _ {J S : Type 0} (view : J → JobView) (came : J → Wire) (closed : S → Wire) (home : Home Frame) (place : DeskPlace Frame) where
  -- what stands of a session whose passes are all back
  pub session-stands : (file : Option (List ℕ)) (jobs : List J) (results : List (Ended × PassView Entry Frame × S)) (back : Option (PassView Entry Frame)) (keeper : KeeperView Entry Frame) (ends : List (Ended × S)) (shared : Shared) (frame : Frame) (before now : Option (List Wire)) (why : ServerStatus)
      → CameInOrder why (map came jobs) before now → frame_of shared ≡ frame → home.frame ≡ frame → Meet (GivesOf view came closed home place) jobs results → Admitted view home place 0 file jobs
      → keeper.given ≡ map noted results ++ passes_back back → keeper.made ≡ length jobs + length (passes_back back) → IfSome back (IsUnused place (length jobs))
      → Closes whose keeper shared.engine.history shared.engine.mark → ends ≡ map serving_end results
      → IsLegal shared.engine.limit shared.engine.history → IfSome shared.engine.mark (λ at. at ≡ length shared.engine.history) → SessionStands closed frame file before now why ends shared
  session-stands file jobs results back keeper ends shared frame before now why order frames at met all given made unused closes are legal marked =
      let history = shared.engine.history in
      let all_given = subst (λ (gs : List (GivenBack Entry)). All (HasGiven whose history) gs) given closes.given in
      let marks = subst (λ (gs : List (GivenBack Entry)). All (HasMet shared.engine.mark) gs) given closes.marks in
      let rows = rows-of view came closed home place history shared.engine.mark 0 file jobs results met all (all-front (HasGiven whose history) (map noted results) (passes_back back) all_given) (all-front (HasMet shared.engine.mark) (map noted results) (passes_back back) marks) in
      let low = numbers-below place history keeper.made (length jobs) back made unused (all-behind (HasGiven whose history) (map noted results) (passes_back back) all_given) closes.numbers in
      let count : length ends ≡ length jobs = ap length are ∙ length-map serving_end results ∙ length-met (GivesOf view came closed home place) jobs results met in
      record {
        frame_is = frames;
        links = map came jobs;
        in_order = order;
        rows = subst (λ (es : List (Ended × S)). RowsFrom closed frame.limit history shared.engine.mark 0 file (map came jobs) es) (sym are)
            (subst (λ (f : Frame). RowsFrom closed f.limit history shared.engine.mark 0 file (map came jobs) (map serving_end results)) at rows);
        numbers = subst (λ n. All (λ e. whose e < n) history) (sym count) low;
        legal = subst (λ (f : Frame). IsLegal f.limit history) frames legal;
        marked = marked;
      }

  -- as many links ended as were served
  pub ends-count : (jobs : List J) (results : List (Ended × PassView Entry Frame × S)) (ends : List (Ended × S)) → Meet (GivesOf view came closed home place) jobs results → ends ≡ map serving_end results → length ends ≡ length jobs
  ends-count jobs results ends met are = ap length are ∙ length-map serving_end results ∙ length-met (GivesOf view came closed home place) jobs results met

  -- no pass is out any more
  pub none-out : (jobs : List J) (results : List (Ended × PassView Entry Frame × S)) (rest given : List (GivenBack Entry)) (made out : ℕ) → Meet (GivesOf view came closed home place) jobs results → given ≡ map noted results ++ rest → made ≡ length jobs + length rest → 0 < out → out + length given ≡ made → ⊥
  none-out jobs results rest given made out met e m some is =
      let count : length given ≡ length results + length rest = ap length e ∙ length-append (map noted results) rest ∙ ap (λ n. n + length rest) (length-map noted results) in
      let same : length results ≡ length jobs = length-met (GivesOf view came closed home place) jobs results met in
      absurd (omega (arith, count, same, m, some, is))

-- a mark that was met stays
pub keeps-itself : (m : Option ℕ) → KeepsMark m m
keeps-itself (Some at) = refl
keeps-itself None = tt

pub keeps-first : (a b p c : Option ℕ) → KeepsMark a b → c ≡ first_mark b p → KeepsMark a c
keeps-first None b p c k e = tt
keeps-first (Some at) b p c k e = e ∙ ap (λ m. first_mark m p) k

-- one more pass came back
pub noted-one : {X Y : Type 0} (f : X → Y) (now before first : List Y) (xs : List X) (x : X) → now ≡ before ++ f x ∷ [] → before ≡ first ++ map f xs → now ≡ first ++ map f (xs ++ x ∷ [])
noted-one f now before first xs x e so_far = e ∙ ap (λ ys. ys ++ f x ∷ []) so_far ∙ append_assoc first (map f xs) (f x ∷ []) ∙ ap (λ ys. first ++ ys) (sym (map-one f xs x))

-- all that came back
pub given-all : {X : Type 0} (now before first xs ys : List X) → now ≡ before ++ ys → before ≡ first ++ xs → first ≡ [] → now ≡ xs ++ ys
given-all now before first xs ys e f none = e ∙ ap (λ zs. zs ++ ys) (f ∙ ap (λ zs. zs ++ xs) none)

-- what holds of all that are left holds of the next one
pub of-next : {X : Type 0} (P : X → Type 0) (x : X) (rest all : List X) → all ≡ x ∷ rest → All P all → P x
of-next P x rest all e h = All-head P x rest (subst (λ xs. All P xs) e h)

-- a mark that the keeper met is that of the engine
mark-kept : (at : ℕ) (a b c d : Option ℕ) → a ≡ Some at → KeepsMark a b → KeepsMark b c → Met c d → d ≡ Some at
mark-kept at a b c d is first second met =
    let one = kept a b at is first in let two = kept b c at one second in
    ⊎_elim (λ (none : c ≡ None). (let h : None ≡ Some at = sym none ∙ two in cc)) (λ (same : c ≡ d). sym same ∙ two) met
  where
    kept : (x y : Option ℕ) (at : ℕ) → x ≡ Some at → KeepsMark x y → y ≡ Some at
    kept (Some n) y at is k = k ∙ is
    kept None y at is k = cc

-- why a session ended, by the engine that is left
pub caused-by : (why : ServerStatus) (shared : Shared) (first second third : List Entry) (a b c : Option ℕ) (jobs count : ℕ) → StopsHostingFor why first a jobs → Begins second first → Begins third second → Begins shared.engine.history third → KeepsMark a b → KeepsMark b c → Met c shared.engine.mark → count ≡ jobs
    → IsLegal shared.engine.limit shared.engine.history → SessionCausedBy why count shared
caused-by AllLeft shared first second third a b c jobs count stops one two three m k met same legal =
    let begins = starts_through shared.engine.history second first (starts_through shared.engine.history third second three two) one in
    record { front = first; begins = begins; went = stops; alone = λ who. stays-away given_by shared.engine.limit first begins.0 who (subst (λ (h : List Entry). IsLegal shared.engine.limit h) begins.1 legal) stops }
caused-by (Broken at) shared first second third a b c jobs count stops one two three m k met same legal = mark-kept at a b c shared.engine.mark stops m k met
caused-by LinksFull shared first second third a b c jobs count stops one two three m k met same legal = same ∙ stops
caused-by AcceptFault shared first second third a b c jobs count stops one two three m k met same legal = tt
caused-by SpawnFault shared first second third a b c jobs count stops one two three m k met same legal = tt
caused-by NoMemory shared first second third a b c jobs count stops one two three m k met same legal = tt
caused-by Usage shared first second third a b c jobs count stops one two three m k met same legal = absurd stops
caused-by BindFault shared first second third a b c jobs count stops one two three m k met same legal = absurd stops

-- and it is never its words that were at fault where a session was served
pub never-usage : (why : ServerStatus) (engine : Option Shared) (count : ℕ) → IfServed why (IsSome engine) → IfSome engine (SessionCausedBy why count) → why ≡ Usage → ⊥
never-usage Usage (Some shared) count given caused e = caused
never-usage Usage None count given caused e = cc
never-usage AllLeft engine count given caused e = cc
never-usage AcceptFault engine count given caused e = cc
never-usage SpawnFault engine count given caused e = cc
never-usage (Broken at) engine count given caused e = cc
never-usage LinksFull engine count given caused e = cc
never-usage BindFault engine count given caused e = cc
never-usage NoMemory engine count given caused e = cc
