-- What stays, and why playing stops, over calls one after another.
use Rattle.std.proofs.Common.{◌≡◌, ℕ, ◌+◌, ◌<◌, Bool, true, false, List, [], ◌∷◌, ◌++◌, length, Ok, Err, refl, ap, ◌∙◌, subst, arith, length-append}
use Rattle.std.specs.Prelude.{Some, IfSome}
use Rattle.std.specs.declared.option.Option.{Option}
use Rattle.std.specs.declared.result.Result.{Result}
use Rattle.kak_ports.specs.Ports.{Outlet, Rose}
use Rattle.session_events.specs.declared.event.Entry.{Entry}
use Rattle.session_events.specs.declared.event.Event.TheVariants.{Leave}
use Rattle.session_events.specs.Entries.{entry_with}
use Rattle.session_events.specs.Meaning.{Gives}
use Rattle.session_events.specs.Seats.{Seated, IsSameSeat}
use Rattle.session_lines.specs.declared.playing.Stop.{Stop}
use Rattle.session_lines.specs.declared.playing.Stop.TheVariants.{HistoryFull, Broken, NoMemory, WriteFault}
use Rattle.session_lines.specs.declared.reading.InputEnd.{InputEnd}
use Rattle.session_lines.specs.Connections.{is_unwritten, EndCauses}
use Rattle.session_lines.specs.Sending.{Sends, Counts, FailsFor, Tells}
use Rattle.session_lines.specs.Serving.{HasGone, unseen}
use Rattle.session_lines.specs.Stops.{IsReady, Stays, NoneFailed, StopsFor, Stops, CausedBy, Causes, IsLoss, IsWholeStill, StaysWholeFor}

pub same-then : {x y z : Seated} → IsSameSeat x y → IsSameSeat y z → IsSameSeat x z
same-then s t = record { number = t.number ∙ s.number; limit = t.limit ∙ s.limit; others = t.others ∙ s.others }

-- a seat from which nothing was seen yet is that seat
pub unseen-same : {x y : Seated} → IsSameSeat x y → IsSameSeat (unseen x) y
unseen-same s = record { number = s.number; limit = s.limit; others = s.others }

-- nothing happened
pub stays-still : (x : Seated) → IsReady x → Stays x x
stays-still x ready = record { same = record { number = refl; limit = refl; others = refl }; ready = ready }

-- one call after another
pub stays-then : {x y z : Seated} → Stays x y → Stays y z → Stays x z
stays-then s t = record { same = same-then s.same t.same; ready = t.ready }

-- where nothing is written
stopped-quiet : (why : Stop) (x : Seated) (a : Outlet) → StopsFor why x → CausedBy why x a a
stopped-quiet HistoryFull x a s = (s, refl)
stopped-quiet (Broken at) x a s = (s, refl)
stopped-quiet NoMemory x a s = refl
stopped-quiet WriteFault x a s = absurd s

pub quiet-causes : {A : Type 0} (r : Result A Stop) (x : Seated) (a : Outlet) → Stops r x → Causes r x a a
quiet-causes (Ok done) x a s = refl
quiet-causes (Err why) x a s = stopped-quiet why x a s

-- behind writes that didn't fail
caused-behind : (why : Stop) (x : Seated) (a b c : Outlet) → NoneFailed a b → CausedBy why x b c → CausedBy why x a c
caused-behind HistoryFull x a b c n s = (s.0, s.1 ∙ n)
caused-behind (Broken at) x a b c n s = (s.0, s.1 ∙ n)
caused-behind NoMemory x a b c n s = s ∙ n
caused-behind WriteFault x a b c n s = subst (λ k. Rose k c.faults) n s

pub causes-behind : {A : Type 0} (r : Result A Stop) (x : Seated) (a b c : Outlet) → NoneFailed a b → Causes r x b c → Causes r x a c
causes-behind (Ok done) x a b c n s = s ∙ n
causes-behind (Err why) x a b c n s = caused-behind why x a b c n s

failed-cause : (why : Stop) (x : Seated) (a b : Outlet) (bytes : List ℕ) → FailsFor why a b bytes → CausedBy why x a b
failed-cause HistoryFull x a b bytes t = absurd t
failed-cause (Broken at) x a b bytes t = absurd t
failed-cause NoMemory x a b bytes t = ap (λ o. o.faults) t
failed-cause WriteFault x a b bytes t = t.1

-- a telling that failed, or one that didn't
pub tells-cause : {A : Type 0} (r : Result A Stop) (x : Seated) (a b : Outlet) (bytes : List ℕ) → Tells r a b bytes → Causes r x a b
tells-cause (Ok done) x a b bytes t = t.1
tells-cause (Err why) x a b bytes t = failed-cause why x a b bytes t

-- what a send does, and how it is counted, as a telling
pub send-tells : {A : Type 0} (r : Result A Stop) (a b : Outlet) (bytes : List ℕ) → Sends r a b bytes → Counts r a b → Tells r a b bytes
send-tells (Ok done) a b bytes s c = (s, c)
send-tells (Err why) a b bytes s c = rw s.0 (s.1, c)

-- why a connection ended, behind its leaving: the history is more than full, and a mark still set
pub causes-later : {g : Gives} (r : Result InputEnd Stop) (x y : Seated) (a b : Outlet) → IsSameSeat x y → HasGone g x y → IfSome x.mark (λ at. y.mark ≡ Some at) → Causes r x a b → EndCauses r y a b
causes-later (Ok done) x y a b same g m c = c
causes-later (Err HistoryFull) x y a b same g m c = (longer, c.1)
  where
    longer : y.limit < length y.seen
    longer =
        let n : length y.seen ≡ length (x.seen ++ g.between) + 1 = ap length g.stands ∙ length-append (x.seen ++ g.between) (entry_with x.number Leave g.answers ∷ []) in
        omega (arith, n, length-append x.seen g.between, c.0, same.limit)
causes-later (Err (Broken at)) x y a b same g m c = (subst (λ q. IfSome q (λ n. y.mark ≡ Some n)) c.0 m, c.1)
causes-later (Err NoMemory) x y a b same g m c = c
causes-later (Err WriteFault) x y a b same g m c = c

-- a write that failed, behind which nothing was played
pub unwritten-causes : (r : Result InputEnd Stop) (x : Seated) (a b : Outlet) → is_unwritten r ≡ true → Causes r x a b → EndCauses r x a b
unwritten-causes (Ok done) x a b w c = cc
unwritten-causes (Err HistoryFull) x a b w c = cc
unwritten-causes (Err (Broken at)) x a b w c = cc
unwritten-causes (Err NoMemory) x a b w c = cc
unwritten-causes (Err WriteFault) x a b w c = c

-- a leaving that failed behind phases in which no write did
loss-caused : (parting : List Entry → Bool) (why : Stop) (y : Seated) (a b : Outlet) → NoneFailed a b → IsLoss parting why y → EndCauses (Err why) y a b
loss-caused parting HistoryFull y a b n l = absurd l
loss-caused parting (Broken at) y a b n l = (l, n)
loss-caused parting NoMemory y a b n l = n
loss-caused parting WriteFault y a b n l = absurd l

none-failed : (r : Result InputEnd Stop) (x : Seated) (a b : Outlet) → is_unwritten r ≡ false → Causes r x a b → NoneFailed a b
none-failed (Ok ending) x a b w c = c
none-failed (Err HistoryFull) x a b w c = c.1
none-failed (Err (Broken at)) x a b w c = c.1
none-failed (Err NoMemory) x a b w c = c
none-failed (Err WriteFault) x a b w c = cc

pub loss-causes : (parting : List Entry → Bool) (r : Result InputEnd Stop) (why : Stop) (x y : Seated) (a b : Outlet) → is_unwritten r ≡ false → Causes r x a b → IsLoss parting why y → EndCauses (Err why) y a b
loss-causes parting r why x y a b w c l = loss-caused parting why y a b (none-failed r x a b w c) l

-- a session that isn't broken, behind calls that left it so
pub whole-still : {x y z : Option ℕ} → IsWholeStill x y → IsWholeStill y z → IsWholeStill x z
whole-still f g m = g (f m)

pub whole-then : (why : Stop) (x y z : Option ℕ) → IsWholeStill x y → StaysWholeFor why y z → StaysWholeFor why x z
whole-then HistoryFull x y z f g = whole-still f g
whole-then (Broken at) x y z f g = tt
whole-then NoMemory x y z f g = tt
whole-then WriteFault x y z f g = whole-still f g

pub whole-for : (why : Stop) (x y : Option ℕ) → IsWholeStill x y → StaysWholeFor why x y
whole-for HistoryFull x y f = f
whole-for (Broken at) x y f = tt
whole-for NoMemory x y f = tt
whole-for WriteFault x y f = f
