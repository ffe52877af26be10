-- How the reading of an input goes on, line by line.
use Rattle.std.proofs.Common.{◌≡◌, ℕ, ◌+◌, ◌-◌, ◌<◌, ◌≤◌, ◌⊎◌, inl, inr, Bool, true, false, None, Some, List, [], ◌∷◌, ◌++◌, length, take, Ok, Err, IfSome, refl, sym, ap, ◌∙◌, subst, arith, append_assoc, append-nil, length-append}
use Rattle.std.specs.Prelude.{if◌then◌else◌, ⊤}
use Rattle.std.specs.List.{AllByRecursion, flat_map}
use Rattle.std.proofs.lemmas.List.{take-append-le}
use Rattle.std.specs.declared.option.Option.{Option}
use Rattle.std.specs.declared.result.Result.{Result}
use Rattle.std.specs.Io.KnownBytes.{Consumes}
use Rattle.std.proofs.KnownBytes.{Consumes-nil, Consumes-trans}
use Rattle.kak_ports.specs.Ports.{Inlet, Outlet, Rose}
use Rattle.session_turns.specs.Lines.{whole_lines, last_part, as_line, lines_of_input, with_newlines, HasNoNewline}
use Rattle.session_turns.specs.Histories.{Answer, events_of, is_leaving}
use Rattle.session_turns.specs.Turns.{Turn, Line as Said, Idle, Phase, Protocol, Opening, During, later, turns_of, lines_among, plays, phase_size, due, answers_to}
use Rattle.session_turns.specs.Growth.{How, Whole, Over, Lost, Fits, IsWhole, IsShort, IsUnsent}
use Rattle.session_turns.specs.Headline.{LinesRead, AreLines}
use Rattle.session_turns.proofs.Lists.{stays_front, length-events_of}
use Rattle.session_turns.proofs.TurnLemmas.{flat_map-append}
use Rattle.session_events.specs.declared.event.Entry.{Entry}
use Rattle.session_events.specs.declared.event.Event.{Event}
use Rattle.session_events.specs.Seats.{Seated, IsSameSeat}
use Rattle.line_reading.specs.declared.limits.TheConstants.{MAX_INPUT, MAX_PIECE}
use Rattle.line_reading.specs.declared.reader.NextLine.{NextLine}
use Rattle.line_reading.specs.declared.reader.NextLine.TheVariants as next
use Rattle.line_reading.specs.Reading.{Reading, IsNeeded, IsAll, ReadsCounted}
use Rattle.line_reading.proofs.CutLemmas.{lines-first, no-lines, all-part, lines-given, part-given, given-pushed, none-pushed}
use Rattle.session_lines.specs.declared.playing.Stop.{Stop}
use Rattle.session_lines.specs.declared.playing.Stop.TheVariants as stop
use Rattle.session_lines.specs.declared.reading.InputEnd.{InputEnd}
use Rattle.session_lines.specs.declared.reading.InputEnd.TheVariants.{Left, Ended, ReadFault, Full}
use Rattle.session_lines.specs.Stops.{IsLoss}
use Rattle.session_lines.specs.Serving.{Service, Serves, how_of, line_phases}
use Rattle.session_lines.specs.Reading.{IsDueStill, WasStopped, EndIs, FaultIs, EndFaultIs}
use Rattle.session_lines.specs.Connections.{connection_end, AreAsked, Plays}
use Rattle.session_lines.proofs.ServingLemmas.{serves-append, serves-over, serves-stopped, stopped-got, serves-nothing, serves-lost}

-- the lines of some turns, and of others behind them
pub among-append : (ts us : List Turn) → lines_among (ts ++ us) ≡ lines_among ts ++ lines_among us
among-append [] us = refl
among-append ((Said line) ∷ ts) us = ap (λ r. line ∷ r) (among-append ts us)
among-append (Idle ∷ ts) us = among-append ts us

pub later-append : (ts us : List Turn) → later (ts ++ us) ≡ later ts ++ later us
later-append [] us = refl
later-append (t ∷ ts) us = ap (λ r. During t ∷ r) (later-append ts us)

turns_of-append : (ls ms : List (List ℕ)) → turns_of (ls ++ ms) ≡ turns_of ls ++ turns_of ms
turns_of-append [] ms = refl
turns_of-append (l ∷ ls) ms = ap (λ r. Said l ∷ r) (turns_of-append ls ms)

-- the lines of turns that are lines
pub lines-of : (lines : List (List ℕ)) → lines_among (turns_of lines) ≡ lines
lines-of [] = refl
lines-of (l ∷ lines) = ap (λ r. l ∷ r) (lines-of lines)

asked-of : (lines : List (List ℕ)) → AreAsked (turns_of lines)
asked-of lines = ap turns_of (sym (lines-of lines))

asked-append : (ts us : List Turn) → AreAsked ts → AreAsked us → AreAsked (ts ++ us)
asked-append ts us a b =
    ap (λ r. r ++ us) a ∙ ap (λ r. turns_of (lines_among ts) ++ r) b ∙ sym (turns_of-append (lines_among ts) (lines_among us)) ∙ ap turns_of (sym (among-append ts us))

-- of the bytes all but a last piece completed no line that wasn't played
pub record LastPiece (left : Inlet) (bytes : List ℕ) (turns : List Turn) : Type 0 where
  pub before : List ℕ
  pub piece : List ℕ
  pub front : List Turn
  pub behind : List Turn
  pub cut : bytes ≡ before ++ piece
  pub one : length piece ≤ MAX_PIECE
  pub most : length piece ≤ left.most
  pub turns_are : turns ≡ front ++ behind
  pub lines : lines_among front ≡ whole_lines [] before

-- what was read so far, where the client stays: these turns were all played, and these bytes stand behind their lines
pub record HasRead (u : Bool) (g : Service) (old new : Seated) (a b : Outlet) (left rest : Inlet) (taken : ℕ) (behind : List ℕ) : Type 0 where
  pub bytes : List ℕ
  pub turns : List Turn
  pub takes : Consumes left.left rest.left bytes
  pub count : taken ≡ length bytes
  pub few : taken ≤ MAX_INPUT
  pub most : rest.most ≡ left.most
  pub all : bytes ≡ with_newlines (lines_among turns) ++ behind
  pub none : AllByRecursion HasNoNewline (lines_among turns)
  pub asked : u ≡ false → AreAsked turns
  pub serves : Serves g old new a b Whole (later turns)
  pub last : LastPiece left bytes turns

-- nothing was read yet
pub begin-reading : (u : Bool) (g : Service) (h : Seated) (a : Outlet) (left : Inlet) (reading : Reading) → reading.taken ≡ 0 → reading.pending ≡ [] → HasRead u g h h a a left left reading.taken reading.pending
begin-reading u g h a left reading t p = record {
  bytes = [];
  turns = [];
  takes = Consumes-nil left.left;
  count = t;
  few = omega (arith, t);
  most = refl;
  all = sym p;
  none = tt;
  asked = λ e. refl;
  serves = serves-nothing g h a;
  last = record { before = []; piece = []; front = []; behind = []; cut = refl; one = omega arith; most = omega arith; turns_are = refl; lines = refl };
}

-- before the last piece no line was completed that wasn't played
pub last-more : (left rest : Inlet) (bytes more pending : List ℕ) (turns : List Turn) → rest.most ≡ left.most → bytes ≡ with_newlines (lines_among turns) ++ pending → AllByRecursion HasNoNewline (lines_among turns) → IsNeeded pending rest more → LastPiece left bytes turns → LastPiece left (bytes ++ more) turns
last-more left rest bytes more pending turns m e none (inl h) l = record {
  before = l.before;
  piece = l.piece;
  front = l.front;
  behind = l.behind;
  cut = ap (λ q. bytes ++ q) h ∙ append-nil bytes ∙ l.cut;
  one = l.one;
  most = l.most;
  turns_are = l.turns_are;
  lines = l.lines;
}
last-more left rest bytes more pending turns m e none (inr p) l =
    let given : List (List ℕ) = lines_among turns in
    record {
      before = bytes ++ p.before;
      piece = p.piece;
      front = turns;
      behind = [];
      cut = ap (λ q. bytes ++ q) p.cut ∙ sym (append_assoc bytes p.before p.piece);
      one = p.one;
      most = omega (arith, p.most, m);
      turns_are = sym (append-nil turns);
      lines = sym (ap (λ q. whole_lines [] (q ++ p.before)) e ∙ ap (whole_lines []) (append_assoc (with_newlines given) pending p.before)
          ∙ lines-given given (pending ++ p.before) none ∙ ap (λ r. given ++ r) (no-lines (pending ++ p.before) p.none) ∙ append-nil given);
    }

-- a call of the reader took what it took
abbrev pub read-more : {E : Type 0} (u : Bool) (g : Service) (old new : Seated) (a b : Outlet) (left rest more : Inlet) (answer : Result NextLine E) (was now : Reading) (r : ReadsCounted answer was now rest more) → more.most ≡ rest.most
    → HasRead u g old new a b left rest was.taken was.pending → HasRead u g old new a b left more now.taken (was.pending ++ r.bytes)
read-more u g old new a b left rest more answer was now r m s = record {
  bytes = s.bytes ++ r.bytes;
  turns = s.turns;
  takes = Consumes-trans left.left rest.left more.left s.bytes r.bytes s.takes r.takes;
  count = omega (arith, r.counted, s.count, length-append s.bytes r.bytes);
  few = r.few;
  most = m ∙ s.most;
  all = ap (λ q. q ++ r.bytes) s.all ∙ append_assoc (with_newlines (lines_among s.turns)) was.pending r.bytes;
  none = s.none;
  asked = s.asked;
  serves = s.serves;
  last = last-more left rest s.bytes r.bytes was.pending s.turns s.most s.all s.none r.needed s.last;
}

-- what a call of the reader told
pub told : {E : Type 0} (n m : NextLine) (was now : Reading) (left rest : Inlet) → n ≡ m → ReadsCounted {E = E} (Ok n) was now left rest → ReadsCounted {E = E} (Ok m) was now left rest
told {E = E} n m was now left rest e r = subst (λ q. ReadsCounted {E = E} (Ok q) was now left rest) e r

-- the input has ended, with all that was taken before
pub all-behind : (a b : Option (List ℕ)) (bytes more : List ℕ) → Consumes a b bytes → IfSome b (λ input. input ≡ more) → IfSome a (λ input. input ≡ bytes ++ more)
all-behind None b bytes more c e = tt
all-behind (Some x) None bytes more c e = absurd c
all-behind (Some x) (Some y) bytes more c e = c ∙ ap (λ q. bytes ++ q) e

pub turns-append : (ls ms : List (List ℕ)) → line_phases (ls ++ ms) ≡ line_phases ls ++ line_phases ms
turns-append ls ms = ap later (turns_of-append ls ms) ∙ later-append (turns_of ls) (turns_of ms)

-- a serving with other phases that are the same, with its answers
pub with-phases : (g : Service) (old new : Seated) (a b : Outlet) (how : How) (ts us : List Phase) → ts ≡ us → (s : Serves g old new a b how ts) → (t : Serves g old new a b how us) × (t.got ≡ s.got)
with-phases g old new a b how ts us e s = subst (λ q. (t : Serves g old new a b how q) × (t.got ≡ s.got)) e (s, refl)

-- turns that kept the client keep it whatever is answered behind, and so do the first ones of them
kept-front : (protocol : Protocol Event) (all first more : List Turn) (got late : List (Answer Event)) (out : List ℕ) → all ≡ first ++ more → IsWhole protocol (later all) got out → is_leaving (answers_to protocol (later first) (got ++ late)) ≡ false
kept-front protocol all first more got late out e w =
    let n : ℕ = length (flat_map (plays protocol) (later first)) in
    let events : length got ≡ length (flat_map (plays protocol) (later first) ++ flat_map (plays protocol) (later more)) =
    sym (length-events_of got) ∙ ap length w.events ∙ ap (λ ts. length (flat_map (plays protocol) ts)) (ap later e ∙ later-append first more) ∙ ap length (flat_map-append protocol (later first) (later more)) in
    let le : n ≤ length got = omega (arith, events, length-append (flat_map (plays protocol) (later first)) (flat_map (plays protocol) (later more))) in
    ap is_leaving (take-append-le n got late le) ∙ stays_front n got w.stays

-- what phases play of which there is one
pub due-one : (protocol : Protocol Event) (phase : Phase) (got : List (Answer Event)) → due protocol (phase ∷ []) got ≡ plays protocol phase
due-one protocol phase got = none-behind (is_leaving (take (phase_size protocol phase) got)) (plays protocol phase) ∙ append-nil (plays protocol phase)
  where
    none-behind : (t : Bool) (es : List Event) → es ++ flat_map (plays protocol) (if t then [] else []) ≡ es ++ []
    none-behind true es = refl
    none-behind false es = refl

-- of one phase an event was refused: it has more of them than were answered
pub short-size : (protocol : Protocol Event) (phase : Phase) (got : List (Answer Event)) (out : List ℕ) → IsShort protocol (phase ∷ []) got out → length got < length (plays protocol phase)
short-size protocol phase got out f =
    let h = f.events [] in
    let size : length (plays protocol phase) ≡ length (events_of got) + length (h.0 ∷ h.1) = ap length (sym (due-one protocol phase got) ∙ h.2) ∙ length-append (events_of got) (h.0 ∷ h.1) in
    omega (arith, size, length-events_of got)

-- of one phase that is parted into phases
one-only : (t at : Phase) (before behind : List Phase) → t ∷ [] ≡ before ++ at ∷ behind → (before ≡ []) × (at ≡ t)
one-only t at [] behind e = (refl, let same : t ≡ at = cc in sym same)
one-only t at (x ∷ []) behind e = let no : ◌≡◌ {A = List Phase} [] (at ∷ behind) = cc in cc
one-only t at (x ∷ y ∷ before) behind e = let no : ◌≡◌ {A = List Phase} [] (y ∷ (before ++ at ∷ behind)) = cc in cc

-- of one phase sending failed: all its events were answered
unsent-size : (protocol : Protocol Event) (phase : Phase) (got : List (Answer Event)) (out : List ℕ) → IsUnsent protocol (phase ∷ []) got out → length got ≡ length (plays protocol phase)
unsent-size protocol phase got out f =
    let s = one-only phase f.at f.before f.behind f.split in
    let early : length f.early ≡ length (flat_map (plays protocol) f.before) = sym (length-events_of f.early) ∙ ap length f.whole.events in
    let none : length (flat_map (plays protocol) f.before) ≡ 0 = ap (λ ts. length (flat_map (plays protocol) ts)) s.0 in
    let late : length f.late ≡ length (plays protocol phase) = sym (length-events_of f.late) ∙ ap length f.events ∙ ap (λ t. length (plays protocol t)) s.1 in
    let both : length got ≡ length f.early + length f.late = ap length f.answers ∙ length-append f.early f.late in
    omega (arith, early, none, late, both)

-- how many events phases have, and one behind them
behind-size : (protocol : Protocol Event) (ts : List Phase) (phase : Phase) → length (flat_map (plays protocol) (ts ++ phase ∷ [])) ≡ length (flat_map (plays protocol) ts) + length (plays protocol phase)
behind-size protocol ts phase =
    ap length (flat_map-append protocol ts (phase ∷ []))
    ∙ length-append (flat_map (plays protocol) ts) (plays protocol phase ++ [])
    ∙ ap (λ es. length (flat_map (plays protocol) ts) + length es) (append-nil (plays protocol phase))

whole-size : (protocol : Protocol Event) (ts : List Phase) (got : List (Answer Event)) (out : List ℕ) → IsWhole protocol ts got out → length (flat_map (plays protocol) ts) ≡ length got
whole-size protocol ts got out w = sym (ap length w.events) ∙ length-events_of got

-- playing stopped in a turn, behind turns that were all played
abbrev stopped-behind : (protocol : Protocol Event) (left : Inlet) (bytes : List ℕ) (all : List Turn) (turn : Turn) (more : List Turn) (a b : List (Answer Event)) (x : List ℕ) → IsWhole protocol (later all) a x → LastPiece left bytes all → WasStopped protocol [] (all ++ turn ∷ more) (a ++ b) left bytes
stopped-behind protocol left bytes all turn more a b x w l = record {
  before = later all;
  at = During turn;
  behind = later more;
  split = later-append all (turn ∷ more);
  answered = omega (arith, whole-size protocol (later all) a x w, length-append a b);
  needed = inr (record {
    early = l.before;
    piece = l.piece;
    cut = l.cut;
    one = l.one;
    most = l.most;
    front = l.front;
    lines = l.lines;
    inside = (later l.behind, ap later l.turns_are ∙ later-append l.front l.behind);
  });
}

-- what had no room in the history was due
abbrev pub DueFor : Stop → Type 0 → Type 0
DueFor stop.HistoryFull due = due
DueFor _ due = ⊤

pub due-for : (why : Stop) (due : Type 0) → due → DueFor why due
due-for stop.HistoryFull due d = d
due-for (stop.Broken at) due d = tt
due-for stop.NoMemory due d = tt
due-for stop.WriteFault due d = tt

pub stop-end : (protocol : Protocol Event) (due : Phase → Type 0) (why : Stop) (left : Inlet) (bytes : List ℕ) (all : List Turn) (turn : Turn) (more : List Turn) (a b : List (Answer Event)) (x y : List ℕ) → DueFor why (due (During turn)) → IsWhole protocol (later all) a x → Fits protocol (how_of (Err why)) (During turn ∷ []) b y → LastPiece left bytes all
    → EndIs protocol due [] (all ++ turn ∷ more) (a ++ b) (Err why) left bytes
stop-end protocol due (stop.Broken at) left bytes all turn more a b x y d w f l = tt
stop-end protocol due stop.NoMemory left bytes all turn more a b x y d w f l = tt
stop-end protocol due stop.HistoryFull left bytes all turn more a b x y d w f l = (
  stopped-behind protocol left bytes all turn more a b x w l,
  omega (arith, behind-size protocol (later all) (During turn), whole-size protocol (later all) a x w, length-append a b, short-size protocol (During turn) b y f),
  d,
)
stop-end protocol due stop.WriteFault left bytes all turn more a b x y d w f l = (
  stopped-behind protocol left bytes all turn more a b x w l,
  omega (arith, behind-size protocol (later all) (During turn), whole-size protocol (later all) a x w, length-append a b, unsent-size protocol (During turn) b y f),
)

-- playing stopped in the opening, for which nothing was taken
abbrev stopped-opening : (protocol : Protocol Event) (left : Inlet) (got : List (Answer Event)) → WasStopped protocol (Opening ∷ []) [] got left []
stopped-opening protocol left got = record { before = []; at = Opening; behind = []; split = refl; answered = omega arith; needed = inl refl }

pub opening-end : (protocol : Protocol Event) (due : Phase → Type 0) (why : Stop) (left : Inlet) (got : List (Answer Event)) (out : List ℕ) → due Opening → Fits protocol (how_of (Err why)) (Opening ∷ []) got out → EndIs protocol due (Opening ∷ []) [] got (Err why) left []
opening-end protocol due (stop.Broken at) left got out d f = tt
opening-end protocol due stop.NoMemory left got out d f = tt
opening-end protocol due stop.HistoryFull left got out d f = (stopped-opening protocol left got, omega (arith, behind-size protocol [] Opening, short-size protocol Opening got out f), d)
opening-end protocol due stop.WriteFault left got out d f = (stopped-opening protocol left got, omega (arith, behind-size protocol [] Opening, unsent-size protocol Opening got out f))

-- a client that never came was refused in its opening
pub refused-end : (protocol : Protocol Event) (due : Phase → Type 0) (left : Inlet) (got : List (Answer Event)) → due Opening → 0 < length (plays protocol Opening) → got ≡ [] → EndIs protocol due (Opening ∷ []) [] got (Err stop.HistoryFull) left []
refused-end protocol due left got d some none = (stopped-opening protocol left got, omega (arith, behind-size protocol [] Opening, ap length none, some), d)

-- what was due is so by what follows from it
pub ends-by : (protocol : Protocol Event) (due now : Phase → Type 0) (first : List Phase) (turns : List Turn) (got : List (Answer Event)) (r : Result InputEnd Stop) (left : Inlet) (bytes : List ℕ) → ((phase : Phase) → due phase → now phase) → EndIs protocol due first turns got r left bytes → EndIs protocol now first turns got r left bytes
ends-by protocol due now first turns got (Ok Left) left bytes f e = e
ends-by protocol due now first turns got (Ok Ended) left bytes f e = e
ends-by protocol due now first turns got (Ok ReadFault) left bytes f e = tt
ends-by protocol due now first turns got (Ok Full) left bytes f e = e
ends-by protocol due now first turns got (Err stop.HistoryFull) left bytes f e = (e.0, e.1, f e.0.at e.2)
ends-by protocol due now first turns got (Err stop.WriteFault) left bytes f e = e
ends-by protocol due now first turns got (Err (stop.Broken at)) left bytes f e = tt
ends-by protocol due now first turns got (Err stop.NoMemory) left bytes f e = tt

-- the lines of bytes whose first ones are those that were played
pub lines-behind : (bytes behind : List ℕ) (given : List (List ℕ)) → bytes ≡ with_newlines given ++ behind → AllByRecursion HasNoNewline given → whole_lines [] bytes ≡ given ++ whole_lines [] behind
lines-behind bytes behind given e none = ap (whole_lines []) e ∙ lines-given given behind none

-- where no newline stands behind them, these are all
pub lines-all : (bytes behind : List ℕ) (given : List (List ℕ)) → bytes ≡ with_newlines given ++ behind → AllByRecursion HasNoNewline given → HasNoNewline behind → whole_lines [] bytes ≡ given
lines-all bytes behind given e none h = lines-behind bytes behind given e none ∙ ap (λ r. given ++ r) (no-lines behind h) ∙ append-nil given

some-line : (line : List ℕ) → 0 < length line → as_line line ≡ line ∷ []
some-line [] lt = absurd (omega (arith, lt))
some-line (x ∷ line) lt = refl

-- and with the last part those of the whole input
pub input-lines : (bytes behind : List ℕ) (given : List (List ℕ)) → bytes ≡ with_newlines given ++ behind → AllByRecursion HasNoNewline given → HasNoNewline behind → lines_of_input bytes ≡ given ++ as_line behind
input-lines bytes behind given e none h =
    ap (λ q. q ++ as_line (last_part [] bytes)) (lines-all bytes behind given e none h)
    ∙ ap (λ q. given ++ as_line q) (ap (last_part []) e ∙ part-given given behind none ∙ all-part behind h)

-- of lines that were cut short, these are those that were read
pub stopped-lines : (why : Stop) (ended : Type 0) (bytes : List ℕ) (lines : List (List ℕ)) → AreLines ended bytes lines → LinesRead (connection_end (Err why)) ended bytes lines
stopped-lines stop.HistoryFull ended bytes lines a = a
stopped-lines (stop.Broken at) ended bytes lines a = a
stopped-lines stop.NoMemory ended bytes lines a = a
stopped-lines stop.WriteFault ended bytes lines a = a

-- more was played behind what was read, and the client stays
pub behind-read : (u : Bool) (g : Service) (old mid new : Seated) (a b c : Outlet) (left rest : Inlet) (taken : ℕ) (behind : List ℕ) (s : HasRead u g old mid a b left rest taken behind) (turn : Turn) → IsSameSeat old mid
    → Serves g mid new b c Whole (During turn ∷ []) → Serves g old new a c Whole (later (s.turns ++ turn ∷ []))
behind-read u g old mid new a b c left rest taken behind s turn same t =
    subst (λ ts. Serves g old new a c Whole ts) (sym (later-append s.turns (turn ∷ []))) (serves-append g old mid new a b c Whole (later s.turns) (During turn ∷ []) same s.serves t)

-- no line was completed by a turn behind the last piece
pub last-behind : (left : Inlet) (bytes : List ℕ) (turns more : List Turn) → LastPiece left bytes turns → LastPiece left bytes (turns ++ more)
last-behind left bytes turns more l = record {
  before = l.before;
  piece = l.piece;
  front = l.front;
  behind = l.behind ++ more;
  cut = l.cut;
  one = l.one;
  most = l.most;
  turns_are = ap (λ q. q ++ more) l.turns_are ∙ append_assoc l.front l.behind more;
  lines = l.lines;
}

-- a line was played, and the client stays
pub line-went : {E : Type 0} (u : Bool) (g : Service) (old mid new : Seated) (a b c : Outlet) (left rest more : Inlet) (was now : Reading) (said : List ℕ) (l : Bool) → l ≡ false → IsSameSeat old mid → said ≡ now.line → more.most ≡ rest.most → (r : ReadsCounted {E = E} (Ok next.Line) was now rest more)
    → (s : HasRead u g old mid a b left rest was.taken was.pending) → Serves g mid new b c (how_of (Ok l)) (line_phases (said ∷ [])) → (p : HasRead u g old new a c left more now.taken now.pending) × (p.bytes ≡ s.bytes ++ r.bytes)
line-went u g old mid new a b c left rest more was now said l f same e m r s t =
    let h = read-more u g old mid a b left rest more (Ok next.Line) was now r m s in
    let given : List (List ℕ) = lines_among s.turns in
    let among : lines_among (s.turns ++ Said now.line ∷ []) ≡ given ++ now.line ∷ [] = among-append s.turns (Said now.line ∷ []) in (
      record {
        bytes = h.bytes;
        turns = h.turns ++ Said now.line ∷ [];
        takes = h.takes;
        count = h.count;
        few = h.few;
        most = h.most;
        all = h.all ∙ ap (λ q. with_newlines given ++ q) r.gives.split ∙ sym (given-pushed given now.line now.pending) ∙ ap (λ q. with_newlines q ++ now.pending) (sym among);
        none = subst (λ q. AllByRecursion HasNoNewline q) (sym among) (none-pushed given now.line h.none r.gives.first);
        asked = λ e. asked-append s.turns (Said now.line ∷ []) (s.asked e) refl;
        serves = behind-read u g old mid new a b c left more now.taken (was.pending ++ r.bytes) h (Said now.line) same
            (subst (λ q. Serves g mid new b c Whole (line_phases (q ∷ []))) e (subst (λ q. Serves g mid new b c (how_of (Ok q)) (line_phases (said ∷ []))) f t));
        last = last-behind left h.bytes h.turns (Said now.line ∷ []) h.last;
      },
      refl,
    )

-- the lines of bytes in which a line stands behind those that were played
pub lines-at : (bytes behind line pending : List ℕ) (given : List (List ℕ)) → bytes ≡ with_newlines given ++ behind → AllByRecursion HasNoNewline given → behind ≡ line ++ 10 ∷ pending → HasNoNewline line → whole_lines [] bytes ≡ given ++ line ∷ whole_lines [] pending
lines-at bytes behind line pending given e none cut h = lines-behind bytes behind given e none ∙ ap (λ q. given ++ whole_lines [] q) cut ∙ ap (λ r. given ++ r) (lines-first line pending h)

-- turns, and lines behind them that weren't played
abbrev with-lines : List Turn → List (List ℕ) → List Turn
with-lines turns lines = turns ++ turns_of lines

-- their lines
lines-with : (turns : List Turn) (behind lines : List (List ℕ)) → lines ≡ lines_among turns ++ behind → lines_among (with-lines turns behind) ≡ lines
lines-with turns behind lines e = among-append turns (turns_of behind) ∙ ap (λ r. lines_among turns ++ r) (lines-of behind) ∙ sym e

asked-with : (turns : List Turn) (behind : List (List ℕ)) → AreAsked turns → AreAsked (with-lines turns behind)
asked-with turns behind a = asked-append turns (turns_of behind) a (asked-of behind)

-- the client may leave after a line: of the lines behind it none is played, and what kept the client before is known
left-at : (u : Bool) (g : Service) (old mid new : Seated) (a b c : Outlet) (left rest : Inlet) (taken : ℕ) (behind line : List ℕ) (beyond lines : List (List ℕ)) (h : HasRead u g old mid a b left rest taken behind) → lines ≡ lines_among h.turns ++ line ∷ beyond → IsSameSeat old mid → AreLines (IsAll left h.bytes) h.bytes lines
    → ((got : List (Answer Event)) → ((first more : List Turn) → h.turns ≡ first ++ more → is_leaving (answers_to g.protocol (later first) got) ≡ false) → EndIs g.protocol (IsDueStill old.number new.seen) [] (with-lines h.turns (line ∷ beyond)) got (Ok Left) left h.bytes)
    → Serves g mid new b c Over (line_phases (line ∷ [])) → (p : Plays u [] g old new a c left rest (Ok Left)) × (p.bytes ≡ h.bytes)
left-at u g old mid new a b c left rest taken behind line beyond lines h cut same read end t = (
  record {
    bytes = h.bytes;
    takes = h.takes;
    few = omega (arith, h.few, h.count);
    turns = with-lines h.turns (line ∷ beyond);
    lines_are = subst (λ ls. AreLines (IsAll left h.bytes) h.bytes ls) (sym (lines-with h.turns (line ∷ beyond) lines cut)) read;
    asked = λ e. asked-with h.turns (line ∷ beyond) (h.asked e);
    serves = found.0;
    end_is = end found.0.got (λ first more e. ap (λ q. is_leaving (answers_to g.protocol (later first) q)) found.1 ∙ kept-front g.protocol h.turns first more h.serves.got now.got h.serves.out e h.serves.fits);
  },
  refl,
)
  where
    now : Serves g mid new b c Over (line_phases (line ∷ []) ++ line_phases beyond)
    now = serves-over g mid new b c (line_phases (line ∷ [])) (line_phases beyond) t

    found : (t : Serves g old new a c Over (later (with-lines h.turns (line ∷ beyond)))) × (t.got ≡ h.serves.got ++ now.got)
    found = with-phases g old new a c Over _ _ (sym (later-append h.turns (turns_of (line ∷ beyond)))) (serves-append g old mid new a b c Over (later h.turns) (line_phases (line ∷ []) ++ line_phases beyond) same h.serves now)

-- playing stopped in a line
stopped-at : (u : Bool) (g : Service) (old mid new : Seated) (a b c : Outlet) (left rest : Inlet) (taken : ℕ) (behind line : List ℕ) (beyond lines : List (List ℕ)) (why : Stop) (h : HasRead u g old mid a b left rest taken behind) → lines ≡ lines_among h.turns ++ line ∷ beyond → IsSameSeat old mid → AreLines (IsAll left h.bytes) h.bytes lines
    → Serves g mid new b c (how_of (Err why)) (line_phases (line ∷ [])) → (p : Plays u [] g old new a c left rest (Err why)) × (p.bytes ≡ h.bytes)
stopped-at u g old mid new a b c left rest taken behind line beyond lines why h cut same read t = (
  record {
    bytes = h.bytes;
    takes = h.takes;
    few = omega (arith, h.few, h.count);
    turns = with-lines h.turns (line ∷ beyond);
    lines_are = subst (λ ls. LinesRead (connection_end (Err why)) (IsAll left h.bytes) h.bytes ls) (sym (lines-with h.turns (line ∷ beyond) lines cut)) (stopped-lines why (IsAll left h.bytes) h.bytes lines read);
    asked = λ e. asked-with h.turns (line ∷ beyond) (h.asked e);
    serves = found.0;
    end_is = subst (λ got. EndIs g.protocol (IsDueStill old.number new.seen) [] (with-lines h.turns (line ∷ beyond)) got (Err why) left h.bytes) (sym found.1)
        (stop-end g.protocol (IsDueStill old.number new.seen) why left h.bytes h.turns (Said line) (turns_of beyond) h.serves.got t.got h.serves.out t.out (due-for why ⊤ tt) h.serves.fits t.fits h.last);
  },
  refl,
)
  where
    found : (p : Serves g old new a c (how_of (Err why)) (later (with-lines h.turns (line ∷ beyond)))) × (p.got ≡ h.serves.got ++ t.got)
    found =
        let now = serves-stopped g mid new b c why (line_phases (line ∷ [])) (line_phases beyond) t in
        let p = with-phases g old new a c (how_of (Err why)) _ _ (sym (later-append h.turns (turns_of (line ∷ beyond)))) (serves-append g old mid new a b c (how_of (Err why)) (later h.turns) (line_phases (line ∷ []) ++ line_phases beyond) same h.serves now) in
        (p.0, p.1 ∙ ap (λ q. h.serves.got ++ q) (stopped-got g mid new b c why (line_phases (line ∷ [])) (line_phases beyond) t))

as-left : (g : Service) (x y : Seated) (a b : Outlet) (said line : List ℕ) (l : Bool) → l ≡ true → said ≡ line → Serves g x y a b (how_of (Ok l)) (line_phases (said ∷ [])) → Serves g x y a b Over (line_phases (line ∷ []))
as-left g x y a b said line l f e t = subst (λ q. Serves g x y a b Over (line_phases (q ∷ []))) e (subst (λ q. Serves g x y a b (how_of (Ok q)) (line_phases (said ∷ []))) f t)

as-stopped : (g : Service) (x y : Seated) (a b : Outlet) (why : Stop) (said line : List ℕ) → said ≡ line → Serves g x y a b (how_of (Err why)) (line_phases (said ∷ [])) → Serves g x y a b (how_of (Err why)) (line_phases (line ∷ []))
as-stopped g x y a b why said line e t = subst (λ q. Serves g x y a b (how_of (Err why)) (line_phases (q ∷ []))) e t

pub line-left : {E : Type 0} (u : Bool) (g : Service) (old mid new : Seated) (a b c : Outlet) (left rest more : Inlet) (was now : Reading) (said : List ℕ) (l : Bool) → l ≡ true → IsSameSeat old mid → said ≡ now.line → more.most ≡ rest.most → (r : ReadsCounted {E = E} (Ok next.Line) was now rest more)
    → (s : HasRead u g old mid a b left rest was.taken was.pending) → Serves g mid new b c (how_of (Ok l)) (line_phases (said ∷ [])) → (p : Plays u [] g old new a c left more (Ok Left)) × (p.bytes ≡ s.bytes ++ r.bytes)
line-left u g old mid new a b c left rest more was now said l f same e m r s t =
    let h = read-more u g old mid a b left rest more (Ok next.Line) was now r m s in
    let beyond : List (List ℕ) = now.line ∷ whole_lines [] now.pending in
    left-at u g old mid new a b c left more now.taken (was.pending ++ r.bytes) now.line (whole_lines [] now.pending) (whole_lines [] (s.bytes ++ r.bytes)) h
    (lines-at (s.bytes ++ r.bytes) (was.pending ++ r.bytes) now.line now.pending (lines_among s.turns) h.all s.none r.gives.split r.gives.first) same (inl refl)
    (λ got kept. inr (inl (record {
      before = h.last.before;
      piece = h.last.piece;
      cut = h.last.cut;
      one = h.last.one;
      most = h.last.most;
      kept = record {
        front = h.last.front;
        behind = h.last.behind ++ turns_of beyond;
        cut = ap (λ q. q ++ turns_of beyond) h.last.turns_are ∙ append_assoc h.last.front h.last.behind (turns_of beyond);
        lines = h.last.lines;
        stays = kept h.last.front h.last.behind h.last.turns_are;
      };
    })))
    (as-left g mid new b c said now.line l f e t)

pub line-stopped : {E : Type 0} (u : Bool) (g : Service) (old mid new : Seated) (a b c : Outlet) (left rest more : Inlet) (was now : Reading) (said : List ℕ) (why : Stop) → IsSameSeat old mid → said ≡ now.line → more.most ≡ rest.most → (r : ReadsCounted {E = E} (Ok next.Line) was now rest more)
    → (s : HasRead u g old mid a b left rest was.taken was.pending) → Serves g mid new b c (how_of (Err why)) (line_phases (said ∷ [])) → (p : Plays u [] g old new a c left more (Err why)) × (p.bytes ≡ s.bytes ++ r.bytes)
line-stopped u g old mid new a b c left rest more was now said why same e m r s t =
    let h = read-more u g old mid a b left rest more (Ok next.Line) was now r m s in
    stopped-at u g old mid new a b c left more now.taken (was.pending ++ r.bytes) now.line (whole_lines [] now.pending) (whole_lines [] (s.bytes ++ r.bytes)) why h
    (lines-at (s.bytes ++ r.bytes) (was.pending ++ r.bytes) now.line now.pending (lines_among s.turns) h.all s.none r.gives.split r.gives.first) same (inl refl)
    (as-stopped g mid new b c why said now.line e t)

-- a last line behind those that were played, where the input has ended
pub last-lines : (bytes behind line : List ℕ) (given : List (List ℕ)) → bytes ≡ with_newlines given ++ behind → AllByRecursion HasNoNewline given → behind ≡ line → HasNoNewline line → 0 < length line → lines_of_input bytes ≡ given ++ line ∷ []
last-lines bytes behind line given e none all h some =
    input-lines bytes line given (e ∙ ap (λ q. with_newlines given ++ q) all) none h ∙ ap (λ r. given ++ r) (some-line line some)

pub last-went : {E : Type 0} (u : Bool) (g : Service) (old mid new : Seated) (a b c : Outlet) (left rest more : Inlet) (was now : Reading) (said : List ℕ) (l : Bool) → l ≡ false → IsSameSeat old mid → said ≡ now.line → more.most ≡ rest.most → (r : ReadsCounted {E = E} (Ok next.Last) was now rest more)
    → (s : HasRead u g old mid a b left rest was.taken was.pending) → Serves g mid new b c (how_of (Ok l)) (line_phases (said ∷ [])) → (p : Plays u [] g old new a c left more (Ok Ended)) × (p.bytes ≡ s.bytes ++ r.bytes)
last-went u g old mid new a b c left rest more was now said l f same e m r s t =
    let h = read-more u g old mid a b left rest more (Ok next.Last) was now r m s in
    let all : IsAll left (s.bytes ++ r.bytes) = all-behind left.left rest.left s.bytes r.bytes s.takes r.gives.ended in
    let lines : lines_of_input (s.bytes ++ r.bytes) ≡ lines_among s.turns ++ now.line ∷ [] =
    last-lines (s.bytes ++ r.bytes) (was.pending ++ r.bytes) now.line (lines_among s.turns) h.all s.none r.gives.all r.gives.none r.gives.some in (
      record {
        bytes = h.bytes;
        takes = h.takes;
        few = omega (arith, r.few, h.count);
        turns = with-lines s.turns (now.line ∷ []);
        lines_are = (all, lines-with s.turns (now.line ∷ []) (lines_of_input (s.bytes ++ r.bytes)) lines);
        asked = λ e. asked-with s.turns (now.line ∷ []) (s.asked e);
        serves = behind-read u g old mid new a b c left more now.taken (was.pending ++ r.bytes) h (Said now.line) same
            (subst (λ q. Serves g mid new b c Whole (line_phases (q ∷ []))) e (subst (λ q. Serves g mid new b c (how_of (Ok q)) (line_phases (said ∷ []))) f t));
        end_is = all;
      },
      refl,
    )

pub last-left : {E : Type 0} (u : Bool) (g : Service) (old mid new : Seated) (a b c : Outlet) (left rest more : Inlet) (was now : Reading) (said : List ℕ) (l : Bool) → l ≡ true → IsSameSeat old mid → said ≡ now.line → more.most ≡ rest.most → (r : ReadsCounted {E = E} (Ok next.Last) was now rest more)
    → (s : HasRead u g old mid a b left rest was.taken was.pending) → Serves g mid new b c (how_of (Ok l)) (line_phases (said ∷ [])) → (p : Plays u [] g old new a c left more (Ok Left)) × (p.bytes ≡ s.bytes ++ r.bytes)
last-left u g old mid new a b c left rest more was now said l f same e m r s t =
    let h = read-more u g old mid a b left rest more (Ok next.Last) was now r m s in
    let all : IsAll left (s.bytes ++ r.bytes) = all-behind left.left rest.left s.bytes r.bytes s.takes r.gives.ended in
    let whole : whole_lines [] (s.bytes ++ r.bytes) ≡ lines_among s.turns =
    lines-all (s.bytes ++ r.bytes) (was.pending ++ r.bytes) (lines_among s.turns) h.all s.none (subst HasNoNewline (sym r.gives.all) r.gives.none) in
    left-at u g old mid new a b c left more now.taken (was.pending ++ r.bytes) now.line [] (lines_of_input (s.bytes ++ r.bytes)) h
    (last-lines (s.bytes ++ r.bytes) (was.pending ++ r.bytes) now.line (lines_among s.turns) h.all s.none r.gives.all r.gives.none r.gives.some) same (inr (all, refl))
    (λ got kept. inr (inr (all, record { front = s.turns; behind = Said now.line ∷ []; cut = refl; lines = sym whole; stays = kept s.turns [] (sym (append-nil s.turns)) })))
    (as-left g mid new b c said now.line l f e t)

pub last-stopped : {E : Type 0} (u : Bool) (g : Service) (old mid new : Seated) (a b c : Outlet) (left rest more : Inlet) (was now : Reading) (said : List ℕ) (why : Stop) → IsSameSeat old mid → said ≡ now.line → more.most ≡ rest.most → (r : ReadsCounted {E = E} (Ok next.Last) was now rest more)
    → (s : HasRead u g old mid a b left rest was.taken was.pending) → Serves g mid new b c (how_of (Err why)) (line_phases (said ∷ [])) → (p : Plays u [] g old new a c left more (Err why)) × (p.bytes ≡ s.bytes ++ r.bytes)
last-stopped u g old mid new a b c left rest more was now said why same e m r s t =
    let h = read-more u g old mid a b left rest more (Ok next.Last) was now r m s in
    let all : IsAll left (s.bytes ++ r.bytes) = all-behind left.left rest.left s.bytes r.bytes s.takes r.gives.ended in
    stopped-at u g old mid new a b c left more now.taken (was.pending ++ r.bytes) now.line [] (lines_of_input (s.bytes ++ r.bytes)) why h
    (last-lines (s.bytes ++ r.bytes) (was.pending ++ r.bytes) now.line (lines_among s.turns) h.all s.none r.gives.all r.gives.none r.gives.some) same (inr (all, refl))
    (as-stopped g mid new b c why said now.line e t)

-- the input ended behind a newline, or before all bytes
pub input-ended : {E : Type 0} (u : Bool) (g : Service) (old new : Seated) (a b : Outlet) (left rest more : Inlet) (was now : Reading) → more.most ≡ rest.most → (r : ReadsCounted {E = E} (Ok next.Ended) was now rest more)
    → (s : HasRead u g old new a b left rest was.taken was.pending) → (p : Plays u [] g old new a b left more (Ok Ended)) × (p.bytes ≡ s.bytes ++ r.bytes)
input-ended u g old new a b left rest more was now m r s =
    let h = read-more u g old new a b left rest more (Ok next.Ended) was now r m s in
    let all : IsAll left (s.bytes ++ r.bytes) = all-behind left.left rest.left s.bytes r.bytes s.takes r.gives.ended in (
      record {
        bytes = h.bytes;
        takes = h.takes;
        few = omega (arith, r.few, h.count);
        turns = s.turns;
        lines_are = (all, sym (input-lines (s.bytes ++ r.bytes) [] (lines_among s.turns) (h.all ∙ ap (λ q. with_newlines (lines_among s.turns) ++ q) r.gives.all) s.none refl ∙ append-nil (lines_among s.turns)));
        asked = s.asked;
        serves = s.serves;
        end_is = all;
      },
      refl,
    )

-- the input failed
pub input-failed : {E : Type 0} (u : Bool) (g : Service) (old new : Seated) (a b : Outlet) (left rest more : Inlet) (was now : Reading) → more.most ≡ rest.most → (r : ReadsCounted {E = E} (Ok next.ReadFault) was now rest more)
    → (s : HasRead u g old new a b left rest was.taken was.pending) → (p : Plays u [] g old new a b left more (Ok ReadFault)) × (p.bytes ≡ s.bytes ++ r.bytes)
input-failed u g old new a b left rest more was now m r s =
    let h = read-more u g old new a b left rest more (Ok next.ReadFault) was now r m s in (
      record {
        bytes = h.bytes;
        takes = h.takes;
        few = omega (arith, r.few, h.count);
        turns = s.turns;
        lines_are = sym (lines-all (s.bytes ++ r.bytes) (was.pending ++ r.bytes) (lines_among s.turns) h.all s.none r.gives.none);
        asked = s.asked;
        serves = s.serves;
        end_is = tt;
      },
      refl,
    )

-- all that may be taken was taken
pub input-full : {E : Type 0} (u : Bool) (g : Service) (old new : Seated) (a b : Outlet) (left rest more : Inlet) (was now : Reading) → more.most ≡ rest.most → (r : ReadsCounted {E = E} (Ok next.Full) was now rest more)
    → (s : HasRead u g old new a b left rest was.taken was.pending) → (p : Plays u [] g old new a b left more (Ok Full)) × (p.bytes ≡ s.bytes ++ r.bytes)
input-full u g old new a b left rest more was now m r s =
    let h = read-more u g old new a b left rest more (Ok next.Full) was now r m s in (
      record {
        bytes = h.bytes;
        takes = h.takes;
        few = omega (arith, r.few, h.count);
        turns = s.turns;
        lines_are = sym (lines-all (s.bytes ++ r.bytes) (was.pending ++ r.bytes) (lines_among s.turns) h.all s.none r.gives.0.none);
        asked = s.asked;
        serves = s.serves;
        end_is = sym h.count ∙ r.gives.1;
      },
      refl,
    )

-- memory was wanting for a line
pub line-lost : {E : Type 0} (e : E) (u : Bool) (g : Service) (old new : Seated) (a b : Outlet) (left rest more : Inlet) (was now : Reading) → IsSameSeat old new → more.most ≡ rest.most → (r : ReadsCounted (Err e) was now rest more)
    → (s : HasRead u g old new a b left rest was.taken was.pending) → (p : Plays u [] g old new a b left more (Err stop.NoMemory)) × (p.bytes ≡ s.bytes ++ r.bytes)
line-lost e u g old new a b left rest more was now same m r s =
    let h = read-more u g old new a b left rest more (Err e) was now r m s in
    let behind : List (List ℕ) = whole_lines [] (was.pending ++ r.bytes) in (
      record {
        bytes = h.bytes;
        takes = h.takes;
        few = omega (arith, r.few, h.count);
        turns = with-lines s.turns behind;
        lines_are = inl (lines-with s.turns behind (whole_lines [] (s.bytes ++ r.bytes)) (lines-behind (s.bytes ++ r.bytes) (was.pending ++ r.bytes) (lines_among s.turns) h.all s.none));
        asked = λ e. asked-with s.turns behind (s.asked e);
        serves = subst (λ ts. Serves g old new a b Lost ts) (sym (later-append s.turns (turns_of behind)))
            (serves-append g old new new a b b Lost (later s.turns) (line_phases behind) same s.serves (serves-lost g new b (line_phases behind)));
        end_is = tt;
      },
      refl,
    )

-- fewer bytes are left to come, or stand behind a line
pub line-shorter : {E : Type 0} (left rest : Inlet) (was now : Reading) → ReadsCounted {E = E} (Ok next.Line) was now left rest → (MAX_INPUT - now.taken) + length now.pending < (MAX_INPUT - was.taken) + length was.pending
line-shorter left rest was now r =
    omega (arith, r.counted, r.few, ap length r.gives.split, length-append was.pending r.bytes, length-append now.line (10 ∷ now.pending))

-- where playing stopped, no read fault was met
pub fault-free : (why : Stop) (left rest : Inlet) → rest.faults ≡ left.faults → FaultIs (Err why) left rest
fault-free stop.HistoryFull left rest e = e
fault-free stop.WriteFault left rest e = e
fault-free (stop.Broken at) left rest e = inl e
fault-free stop.NoMemory left rest e = e

fault-met : (r : Result InputEnd Stop) (left rest : Inlet) → FaultIs r left rest → (rest.faults ≡ left.faults) ⊎ Rose left.faults rest.faults
fault-met (Ok Left) left rest f = inl f
fault-met (Ok Ended) left rest f = inl f
fault-met (Ok ReadFault) left rest f = inr f
fault-met (Ok Full) left rest f = inl f
fault-met (Err stop.HistoryFull) left rest f = inl f
fault-met (Err (stop.Broken at)) left rest f = f
fault-met (Err stop.NoMemory) left rest f = inl f
fault-met (Err stop.WriteFault) left rest f = inl f

wanting-faults : (goes : Bool) (left rest : Inlet) → goes ≡ true → (rest.faults ≡ left.faults) ⊎ Rose left.faults rest.faults → (rest.faults ≡ left.faults) ⊎ ((goes ≡ true) × Rose left.faults rest.faults)
wanting-faults goes left rest is (inl same) = inl same
wanting-faults goes left rest is (inr more) = inr (is, more)

-- a loss behind whatever was read
pub fault-later : (parting : List Entry → Bool) (r : Result InputEnd Stop) (why : Stop) (left rest : Inlet) (seat : Seated) → IsLoss parting why seat → FaultIs r left rest → EndFaultIs parting (Err why) seat left rest
fault-later parting r stop.HistoryFull left rest seat l f = absurd l
fault-later parting r (stop.Broken at) left rest seat l f = fault-met r left rest f
fault-later parting r stop.NoMemory left rest seat l f = wanting-faults _ left rest l (fault-met r left rest f)
fault-later parting r stop.WriteFault left rest seat l f = absurd l

-- what was met while lines were read, behind a leaving that nothing was wanting for
pub fault-still : (parting : List Entry → Bool) (r : Result InputEnd Stop) (left rest : Inlet) (seat : Seated) → FaultIs r left rest → EndFaultIs parting r seat left rest
fault-still parting (Ok ending) left rest seat f = f
fault-still parting (Err stop.HistoryFull) left rest seat f = f
fault-still parting (Err (stop.Broken at)) left rest seat f = f
fault-still parting (Err stop.NoMemory) left rest seat f = inl f
fault-still parting (Err stop.WriteFault) left rest seat f = f
