-- How one client of a replay gets on, and that nobody else does meanwhile.
use Rattle.std.proofs.Common.{◌≡◌, ◌≢◌, ℕ, Bool, true, false, ◌||◌, List, [], ◌∷◌, ◌++◌, drop, length, Ok, Err, refl, sym, ap, ◌∙◌, subst, arith, append-nil, append_assoc}
use Rattle.std.specs.Prelude.{if◌then◌else◌, ◌==◌, Option, Some, None, is_none}
use Rattle.std.specs.declared.result.Result.{Result}
use Rattle.std.proofs.lemmas.Bool.{eq-eqb, ne_eqb, eqb-true}
use Rattle.std.specs.Io.KnownBytes.{Appends}
use Rattle.ui_board.specs.Told.{Shown}
use Rattle.session_turns.specs.Histories.{own, answers, is_leaving}
use Rattle.session_turns.specs.Turns.{Opening, During, Line, later, phases, turns_of}
use Rattle.session_turns.specs.Growth.{How, Whole, Adds, Fits}
use Rattle.session_turns.proofs.HistoryLemmas.{own-append, adds-others, adds-append, adds-answers, adds-own_events, leave-answers, leave-own}
use Rattle.session_turns.proofs.TurnLemmas.{fits-append}
use Rattle.session_events.specs.declared.event.Event.{Event}
use Rattle.session_events.specs.declared.event.Event.TheVariants.{Join, Leave}
use Rattle.session_events.specs.declared.event.Entry.{Entry}
use Rattle.session_events.specs.declared.event.Output.{Output}
use Rattle.session_events.specs.Entries.{entry_with, others_of}
use Rattle.session_events.specs.Meaning.{IsMeaning, rules}
use Rattle.session_events.specs.Seats.{Seated, IsSameSeat, IsAlone, turned_to, Steps, Sees}
use Rattle.session_lines.specs.declared.playing.Stop.{Stop}
use Rattle.session_lines.specs.declared.playing.Stop.TheVariants as stop
use Rattle.session_lines.specs.declared.playing.Reply.{Reply}
use Rattle.session_lines.specs.Sending.{FailsFor}
use Rattle.session_lines.specs.Session.{protocol, keys_played, played_by, bytes_of_refusal}
use Rattle.session_lines.specs.Serving.{telling_bytes, HasOnlyCome, AreCut, LeavesOut, IsAnswered, PhaseAnswers, HasGone, Leaves, Serves, service, how_of, unseen}
use Rattle.session_lines.specs.Stops.{StopsFor}
use Rattle.session_lines.proofs.ServingLemmas.{answered-told, answered-untold, serves-cut}
use Rattle.session_lines.proofs.OpeningLemmas.{let_go_or, opening-taken, opening-cut, came-only}
use Rattle.session_replay.specs.Settings.{Setting}
use Rattle.session_replay.specs.Boxes.{box_outlet, told_in}
use Rattle.session_replay.specs.Clients.{GotTo, LeftAt, GrowsBy, LeavesAlone}
use Rattle.session_replay.proofs.BoxLemmas.{told-more}

-- the entries of others among entries put together
others-append : (who : ℕ) (a b : List Entry) → others_of who (a ++ b) ≡ others_of who a ++ others_of who b
others-append who [] b = refl
others-append who (n ∷ a) b =
    elim (n.who == who) as (λ t. (if t then others_of who (a ++ b) else n ∷ others_of who (a ++ b)) ≡ (if t then others_of who a else n ∷ others_of who a) ++ others_of who b)
    [ true ↦ others-append who a b | false ↦ ap (λ r. n ∷ r) (others-append who a b) ]

none-behind : (a b : List Entry) → a ++ b ≡ a → b ≡ []
none-behind [] b e = e
none-behind (n ∷ a) b e = none-behind a b (ap (λ q. drop 1 q) e)

-- where no entry is another's, none is that other's
own-none : (g : Setting) (who other : ℕ) (more : List Entry) → other ≢ who → others_of who more ≡ [] → own (rules g.gives) other more ≡ []
own-none g who other [] ne e = refl
own-none g who other (n ∷ more) ne e = first (n.who == who) (n.who == other) refl (λ d. ne_eqb n.who other (λ q. ne (sym q ∙ eqb-true n.who who d))) (own-none g who other more ne) e
  where
    first : (s t : Bool) → s ≡ (n.who == who) → ((n.who == who) ≡ true → t ≡ false) → (others_of who more ≡ [] → own (rules g.gives) other more ≡ []) → (if s then others_of who more else n ∷ others_of who more) ≡ []
        → (if t then n.event ∷ own (rules g.gives) other more else own (rules g.gives) other more) ≡ []
    first true true d f later e = absurd (apart (f (sym d)))
      where
        apart : true ≡ false → ⊥
        apart q = cc
    first true false d f later e = later e
    first false t d f later e = cc

-- where no entry is another's, and none the client's own, there is none
none-at-all : (g : Setting) (who : ℕ) (more : List Entry) → own (rules g.gives) who more ≡ [] → others_of who more ≡ [] → more ≡ []
none-at-all g who [] o e = refl
none-at-all g who (n ∷ more) o e = first (n.who == who) o e
  where
    first : (t : Bool) → (if t then n.event ∷ own (rules g.gives) who more else own (rules g.gives) who more) ≡ [] → (if t then others_of who more else n ∷ others_of who more) ≡ [] → n ∷ more ≡ []
    first true o e = cc
    first false o e = cc

some-is : (x y : List Entry) → Some x ≡ Some y → x ≡ y
some-is x y e = ap (λ q. held q) e
  where
    held : Option (List Entry) → List Entry
    held None = []
    held (Some x) = x

-- A seat that was turned to a client, and is that client's still.
number-is : (who : ℕ) (o x z : Seated) → x ≡ turned_to who o → IsSameSeat x z → z.number ≡ who
number-is who o x z turned same = same.number ∙ ap (λ q. q.number) turned

-- what was added, where nobody else plays, holds no entry of others
no-others : (who : ℕ) (o x z : Seated) (more : List Entry) → x ≡ turned_to who o → IsSameSeat x z → IsAlone z → z.seen ≡ o.seen ++ more → others_of who more ≡ []
no-others who o x z more turned same alone e =
    none-behind (others_of who o.seen) (others_of who more)
    (sym (others-append who o.seen more) ∙ ap (others_of who) (sym e) ∙ ap (λ n. others_of n z.seen) (sym (number-is who o x z turned same))
    ∙ some-is _ _ (sym alone ∙ same.others ∙ ap (λ q. q.others) turned))

grows-by : (g : Setting) (who : ℕ) (o x z : Seated) (more : List Entry) → x ≡ turned_to who o → IsSameSeat x z → IsAlone z → z.seen ≡ o.seen ++ more → GrowsBy g who o.seen z.seen
grows-by g who o x z more turned same alone e = record { more = more; grows = e; alone = λ other ne. own-none g who other more ne (no-others who o x z more turned same alone e) }

-- from a seat that was turned, as from the seat before
seen-is : (who : ℕ) (o x z : Seated) (more : List Entry) → x ≡ turned_to who o → z.seen ≡ x.seen ++ more → z.seen ≡ o.seen ++ more
seen-is who o x z more turned e = e ∙ ap (λ q. q.seen ++ more) turned

pub answers-grow : (g : Setting) (who : ℕ) (o x z : Seated) (es : List Event) (said : List ℕ) (r : Result Reply Stop) → x ≡ turned_to who o → IsSameSeat x z → IsAlone z → PhaseAnswers g.gives x z es said r → GrowsBy g who o.seen z.seen
answers-grow g who o x z es said (Ok reply) turned same alone a = grows-by g who o x z a.taken.adds.more turned same alone (seen-is who o x z a.taken.adds.more turned a.taken.adds.grows)
answers-grow g who o x z es said (Err why) turned same alone a = grows-by g who o x z a.adds.more turned same alone (seen-is who o x z a.adds.more turned a.adds.grows)

pub steps-grow : (g : Setting) (who : ℕ) (o x z : Seated) (event : Event) (output : Output) → x ≡ turned_to who o → IsSameSeat x z → IsAlone z → Steps g.gives x z event output → GrowsBy g who o.seen z.seen
steps-grow g who o x z event output turned same alone s =
    let more : List Entry = s.between ++ entry_with x.number event s.answers ∷ [] in
    grows-by g who o x z more turned same alone (seen-is who o x z more turned (s.stands ∙ append_assoc x.seen s.between (entry_with x.number event s.answers ∷ [])))

pub gone-grows : (g : Setting) (who : ℕ) (o x z : Seated) → x ≡ turned_to who o → IsSameSeat x z → IsAlone z → HasGone g.gives x z → GrowsBy g who o.seen z.seen
gone-grows g who o x z turned same alone s =
    let more : List Entry = s.between ++ entry_with x.number Leave s.answers ∷ [] in
    grows-by g who o x z more turned same alone (seen-is who o x z more turned (s.stands ∙ append_assoc x.seen s.between (entry_with x.number Leave s.answers ∷ [])))

pub sees-grow : (g : Setting) (who : ℕ) (o x z : Seated) → x ≡ turned_to who o → IsSameSeat x z → IsAlone z → Sees g.gives x z → GrowsBy g who o.seen z.seen
sees-grow g who o x z turned same alone s = grows-by g who o x z s.between turned same alone (seen-is who o x z s.between turned s.stands)

pub leaves-grow : {A : Type 0} (g : Setting) (parting : List Entry → Bool) (who : ℕ) (o x z : Seated) (r : Result A Stop) → x ≡ turned_to who o → IsSameSeat x z → IsAlone z → Leaves g.gives parting x z r → GrowsBy g who o.seen z.seen
leaves-grow g parting who o x z (Ok done) turned same alone l = gone-grows g who o x z turned same alone l
leaves-grow g parting who o x z (Err why) turned same alone l = sees-grow g who o x z turned same alone l.0

-- one growth behind another
pub grows-then : (g : Setting) (who : ℕ) (a b c : List Entry) → GrowsBy g who a b → GrowsBy g who b c → GrowsBy g who a c
grows-then g who a b c x y = record {
  more = x.more ++ y.more;
  grows = y.grows ∙ ap (λ q. q ++ y.more) x.grows ∙ append_assoc a x.more y.more;
  alone = λ other ne. own-append (rules g.gives) other x.more y.more ∙ ap (λ q. q ++ own (rules g.gives) other y.more) (x.alone other ne) ∙ y.alone other ne;
}

-- where nobody else plays, nothing was added where an event was refused
pub nothing-added : (g : Setting) (who : ℕ) (o x z : Seated) → x ≡ turned_to who o → IsSameSeat x z → IsAlone z → Sees g.gives x z → z.seen ≡ o.seen
nothing-added g who o x z turned same alone s =
    let e : z.seen ≡ o.seen ++ s.between = seen-is who o x z s.between turned s.stands in
    let foreign : own (rules g.gives) who s.between ≡ [] = subst (λ n. own (rules g.gives) n s.between ≡ []) (ap (λ q. q.number) turned) s.foreign in
    e ∙ ap (λ q. o.seen ++ q) (none-at-all g who s.between foreign (no-others who o x z s.between turned same alone e)) ∙ append-nil o.seen

-- a client that has only come, by its number
only-come : (g : Setting) (who : ℕ) (z : Seated) (let_go : Bool) → z.number ≡ who → HasOnlyCome g.gives z let_go → HasOnlyCome g.gives (turned_to who z) let_go
only-come g who z let_go e new = record {
  comes = subst (λ n. own (rules g.gives) n z.seen ≡ Join ∷ []) e new.comes;
  let_go_is = subst (λ n. is_leaving (answers (rules g.gives) n z.seen) ≡ let_go) e new.let_go_is;
}

-- a client that had no entry has its coming alone
pub has-come : (g : Setting) (who : ℕ) (o x z : Seated) (output : Output) → x ≡ turned_to who o → IsSameSeat x z → own (rules g.gives) who o.seen ≡ [] → Steps g.gives x z Join output → HasOnlyCome g.gives (turned_to who z) output.leaving
has-come g who o x z output turned same away steps =
    only-come g who z output.leaving (number-is who o x z turned same)
    (came-only g.gives x z output same (subst (λ q. own (rules g.gives) q.number q.seen ≡ []) (sym turned) away) steps)

-- the opening was played
pub opened : (g : Setting) (how : How) (who : ℕ) (x z : Seated) (s t : Option Shown) → x.number ≡ who → is_none s ≡ false → told_in s ≡ [] → Serves (service g.gives g.reads []) (unseen x) z (box_outlet s) (box_outlet t) how (Opening ∷ []) → GotTo g how who z.seen [] (told_in t)
opened g how who x z s t number there untold w = record {
  got = w.got;
  adds = subst (λ n. Adds (rules g.gives) n [] z.seen w.got) number w.adds;
  fits = subst (λ q. Fits (protocol g.reads []) how (Opening ∷ []) w.got q) (sym (told-more s t w.out there w.sends ∙ ap (λ q. q ++ w.out) untold)) w.fits;
}

-- a client that has only come, at the seat that was turned to it
come-at : (g : Setting) (who : ℕ) (o x : Seated) (let_go : Bool) → x ≡ turned_to who o → HasOnlyCome g.gives (turned_to who o) let_go → HasOnlyCome g.gives x let_go
come-at g who o x let_go turned new = subst (λ q. HasOnlyCome g.gives q let_go) (sym turned) new

named : (who : ℕ) (o x : Seated) → x ≡ turned_to who o → x.number ≡ who
named who o x turned = ap (λ q. q.number) turned

-- the drawing of the opening was refused or lost
pub open-cut : (g : Setting) (who : ℕ) (o x z : Seated) (s : Option Shown) (let_go : Bool) (why : Stop) → x ≡ turned_to who o → IsMeaning g.gives → HasOnlyCome g.gives (turned_to who o) let_go → is_none s ≡ false → told_in s ≡ []
    → StopsFor why z → AreCut g.gives x z (keys_played []) why → GotTo g (how_of (Err why)) who z.seen [] (told_in s)
open-cut g who o x z s let_go why turned meaning new there untold stops cut =
    opened g (how_of (Err why)) who x z s s (named who o x turned) there untold
    (serves-cut (service g.gives g.reads []) (unseen x) z (box_outlet s) Opening (Join ∷ keys_played []) why stops (opening-cut g.gives x z [] let_go why meaning (come-at g who o x let_go turned new) cut) refl)

-- the client was drawn, and its box couldn't be told
pub open-untold : (g : Setting) (who : ℕ) (o x z : Seated) (s t : Option Shown) (let_go : Bool) (reply : Reply) (why : Stop) → x ≡ turned_to who o → IsMeaning g.gives → HasOnlyCome g.gives (turned_to who o) let_go → is_none s ≡ false → told_in s ≡ []
    → IsAnswered g.gives x z (keys_played []) [] reply → FailsFor why (box_outlet s) (box_outlet t) (telling_bytes reply.telling) → GotTo g (how_of (Err why)) who z.seen [] (told_in t)
open-untold g who o x z s t let_go reply why turned meaning new there untold answered fails =
    opened g (how_of (Err why)) who x z s t (named who o x turned) there untold
    (answered-untold (service g.gives g.reads []) (unseen x) z (box_outlet s) (box_outlet t) Opening (Join ∷ keys_played []) [] (let_go_or let_go reply) why (opening-taken g.gives x z [] let_go reply meaning (come-at g who o x let_go turned new) answered) refl refl fails)

-- the client was drawn, and its box was told
pub open-told : (g : Setting) (who : ℕ) (o x z : Seated) (s t : Option Shown) (let_go : Bool) (reply : Reply) → x ≡ turned_to who o → IsMeaning g.gives → HasOnlyCome g.gives (turned_to who o) let_go → is_none s ≡ false → told_in s ≡ []
    → IsAnswered g.gives x z (keys_played []) [] reply → Appends (box_outlet s).told (box_outlet t).told (telling_bytes reply.telling) → GotTo g (how_of (Ok (let_go || reply.leaving))) who z.seen [] (told_in t)
open-told g who o x z s t let_go reply turned meaning new there untold answered tells =
    opened g (how_of (Ok (let_go || reply.leaving))) who x z s t (named who o x turned) there untold
    (answered-told (service g.gives g.reads []) (unseen x) z (box_outlet s) (box_outlet t) Opening (Join ∷ keys_played []) [] (let_go_or let_go reply) (opening-taken g.gives x z [] let_go reply meaning (come-at g who o x let_go turned new) answered) refl refl tells)

none-out : (why : Stop) → LeavesOut why 0 (length (Join ∷ keys_played []))
none-out stop.HistoryFull = omega arith
none-out (stop.Broken at) = tt
none-out stop.NoMemory = tt
none-out stop.WriteFault = tt

-- the coming was refused
pub never-came : (g : Setting) (who : ℕ) (z : Seated) (s : Option Shown) (why : Stop) → own (rules g.gives) who z.seen ≡ [] → StopsFor why z → is_none s ≡ false → told_in s ≡ [] → GotTo g (how_of (Err why)) who z.seen [] (told_in s)
never-came g who z s why away stops there untold = opened g (how_of (Err why)) who (turned_to who z) z s s refl there untold (serves-cut (service g.gives g.reads []) (unseen (turned_to who z)) z (box_outlet s) Opening (Join ∷ keys_played []) why stops cut refl)
  where
    cut : AreCut g.gives (unseen (turned_to who z)) z (Join ∷ keys_played []) why
    cut = record { got = []; adds = adds-others (rules g.gives) who [] z.seen away; begins = (Join ∷ keys_played [], refl); short = none-out why }

later-more : (lines : List (List ℕ)) (line : List ℕ) → later (turns_of (lines ++ line ∷ [])) ≡ later (turns_of lines) ++ During (Line line) ∷ []
later-more [] line = refl
later-more (first ∷ lines) line = ap (λ r. During (Line first) ∷ r) (later-more lines line)

-- a line more was played
pub played-line : (g : Setting) (how : How) (who : ℕ) (o x z : Seated) (s t : Option Shown) (line : List ℕ) (lines : List (List ℕ)) → x ≡ turned_to who o → is_none s ≡ false → Serves (service g.gives g.reads []) x z (box_outlet s) (box_outlet t) how (During (Line line) ∷ [])
    → GotTo g Whole who o.seen lines (told_in s) → GotTo g how who z.seen (lines ++ line ∷ []) (told_in t)
played-line g how who o x z s t line lines turned there serves w = by (subst (λ q. Serves (service g.gives g.reads []) q z (box_outlet s) (box_outlet t) how (During (Line line) ∷ [])) turned serves)
  where
    by : Serves (service g.gives g.reads []) (turned_to who o) z (box_outlet s) (box_outlet t) how (During (Line line) ∷ []) → GotTo g how who z.seen (lines ++ line ∷ []) (told_in t)
    by v = record {
      got = w.got ++ v.got;
      adds = adds-append (rules g.gives) who [] o.seen z.seen w.got v.got w.adds v.adds;
      fits = subst (λ q. Fits (protocol g.reads []) how q (w.got ++ v.got) (told_in t)) (ap (λ q. Opening ∷ q) (sym (later-more lines line)))
          (subst (λ q. Fits (protocol g.reads []) how (phases (turns_of lines) ++ During (Line line) ∷ []) (w.got ++ v.got) q) (sym (told-more s t v.out there v.sends))
          (fits-append (protocol g.reads []) how (phases (turns_of lines)) (During (Line line) ∷ []) w.got v.got (told_in s) v.out w.fits v.fits));
    }

-- events of a line were refused or lost
pub line-cut : (g : Setting) (who : ℕ) (o x z : Seated) (s : Option Shown) (line : List ℕ) (lines : List (List ℕ)) (why : Stop) → x ≡ turned_to who o → is_none s ≡ false → StopsFor why z → AreCut g.gives x z (played_by (g.reads line)) why
    → GotTo g Whole who o.seen lines (told_in s) → GotTo g (how_of (Err why)) who z.seen (lines ++ line ∷ []) (told_in s)
line-cut g who o x z s line lines why turned there stops cut w =
    played-line g (how_of (Err why)) who o x z s s line lines turned there (serves-cut (service g.gives g.reads []) x z (box_outlet s) (During (Line line)) (played_by (g.reads line)) why stops cut refl) w

-- a line was played, and its client's box couldn't be told
pub line-untold : (g : Setting) (who : ℕ) (o x z : Seated) (s t : Option Shown) (line : List ℕ) (lines : List (List ℕ)) (reply : Reply) (why : Stop) → x ≡ turned_to who o → is_none s ≡ false
    → IsAnswered g.gives x z (played_by (g.reads line)) (bytes_of_refusal (g.reads line)) reply → FailsFor why (box_outlet s) (box_outlet t) (telling_bytes reply.telling)
    → GotTo g Whole who o.seen lines (told_in s) → GotTo g (how_of (Err why)) who z.seen (lines ++ line ∷ []) (told_in t)
line-untold g who o x z s t line lines reply why turned there answered fails w =
    played-line g (how_of (Err why)) who o x z s t line lines turned there
    (answered-untold (service g.gives g.reads []) x z (box_outlet s) (box_outlet t) (During (Line line)) (played_by (g.reads line)) (bytes_of_refusal (g.reads line)) reply why answered refl refl fails) w

-- a line was played, and its client's box was told
pub line-told : (g : Setting) (who : ℕ) (o x z : Seated) (s t : Option Shown) (line : List ℕ) (lines : List (List ℕ)) (reply : Reply) → x ≡ turned_to who o → is_none s ≡ false
    → IsAnswered g.gives x z (played_by (g.reads line)) (bytes_of_refusal (g.reads line)) reply → Appends (box_outlet s).told (box_outlet t).told (telling_bytes reply.telling)
    → GotTo g Whole who o.seen lines (told_in s) → GotTo g (how_of (Ok reply.leaving)) who z.seen (lines ++ line ∷ []) (told_in t)
line-told g who o x z s t line lines reply turned there answered tells w =
    played-line g (how_of (Ok reply.leaving)) who o x z s t line lines turned there
    (answered-told (service g.gives g.reads []) x z (box_outlet s) (box_outlet t) (During (Line line)) (played_by (g.reads line)) (bytes_of_refusal (g.reads line)) reply answered refl refl tells) w

-- entries of others came
pub sees-got : (g : Setting) (how : How) (who : ℕ) (o x z : Seated) (lines : List (List ℕ)) (told : List ℕ) → x ≡ turned_to who o → Sees g.gives x z → GotTo g how who o.seen lines told → GotTo g how who z.seen lines told
sees-got g how who o x z lines told turned sees w = by (subst (λ q. Sees g.gives q z) turned sees)
  where
    by : Sees g.gives (turned_to who o) z → GotTo g how who z.seen lines told
    by s = record {
      got = w.got;
      adds = subst (λ h. Adds (rules g.gives) who [] h w.got) (sym s.stands)
          (subst (λ q. Adds (rules g.gives) who [] (o.seen ++ s.between) q) (append-nil w.got) (adds-append (rules g.gives) who [] o.seen (o.seen ++ s.between) w.got [] w.adds (adds-others (rules g.gives) who o.seen s.between s.foreign)));
      fits = w.fits;
    }

-- the client left
pub gone-left : (g : Setting) (how : How) (who : ℕ) (o x z : Seated) (lines : List (List ℕ)) (told : List ℕ) → x ≡ turned_to who o → HasGone g.gives x z → GotTo g how who o.seen lines told → LeftAt g how who z.seen lines told
gone-left g how who o x z lines told turned gone w = by (subst (λ q. HasGone g.gives q z) turned gone)
  where
    by : HasGone g.gives (turned_to who o) z → LeftAt g how who z.seen lines told
    by s =
        let here : List Entry = o.seen ++ s.between in
        let entry : Entry = entry_with who Leave s.answers in
        let adds : Adds (rules g.gives) who [] here w.got = subst (λ q. Adds (rules g.gives) who [] here q) (append-nil w.got) (adds-append (rules g.gives) who [] o.seen here w.got [] w.adds (adds-others (rules g.gives) who o.seen s.between s.foreign)) in
        let mine : (entry.who == who) ≡ true = eq-eqb who who refl in
        record {
          got = w.got;
          answered = ap (answers (rules g.gives) who) s.stands ∙ leave-answers (rules g.gives) who here entry mine refl ∙ adds-answers (rules g.gives) who here w.got adds;
          events = ap (own (rules g.gives) who) s.stands ∙ leave-own (rules g.gives) who here entry mine ∙ ap (λ q. q ++ Leave ∷ []) (adds-own_events (rules g.gives) who here w.got adds);
          fits = w.fits;
        }

-- the client left, and nothing else happened
pub gone-leaves : (g : Setting) (who : ℕ) (o x z : Seated) → x ≡ turned_to who o → IsSameSeat x z → IsAlone z → HasGone g.gives x z → LeavesAlone who o.seen z.seen
gone-leaves g who o x z turned same alone s =
    let entry : Entry = entry_with x.number Leave s.answers in
    let e : z.seen ≡ o.seen ++ (s.between ++ entry ∷ []) = seen-is who o x z (s.between ++ entry ∷ []) turned (s.stands ∙ append_assoc x.seen s.between (entry ∷ [])) in
    let foreign : own (rules g.gives) who s.between ≡ [] = subst (λ n. own (rules g.gives) n s.between ≡ []) (ap (λ q. q.number) turned) s.foreign in
    let others : others_of who s.between ≡ [] = front-none (others_of who s.between) (others_of who (entry ∷ [])) (sym (others-append who s.between (entry ∷ [])) ∙ no-others who o x z (s.between ++ entry ∷ []) turned same alone e) in
    record {
      entry = entry;
      stands = e ∙ ap (λ q. o.seen ++ (q ++ entry ∷ [])) (none-at-all g who s.between foreign others);
      maker = ap (λ q. q.number) turned;
      event = refl;
    }
  where
    front-none : (a b : List Entry) → a ++ b ≡ [] → a ≡ []
    front-none [] b e = refl
    front-none (x ∷ a) b e = cc
