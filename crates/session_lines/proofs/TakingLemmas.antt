-- How the taking of events goes on.
use Rattle.std.proofs.Common.{◌≡◌, ℕ, zero, suc, ◌+◌, ◌≤◌, get_or, ◌<◌, Bool, true, false, ◌||◌, List, [], ◌∷◌, ◌++◌, length, take, drop, map, refl, sym, ap, ◌∙◌, subst, arith, append_assoc, append-nil, length-append}
use Rattle.std.specs.Prelude.{if◌then◌else◌}
use Rattle.std.proofs.lemmas.Bool.{eq-eqb}
use Rattle.std.proofs.lemmas.List.{take_all}
use Rattle.key_names.specs.declared.key.Key as keys
use Rattle.session_turns.specs.Histories.{Answer, events_of, bytes_of, is_leaving}
use Rattle.session_turns.specs.Growth.{Adds}
use Rattle.session_turns.proofs.Lists.{events_of-append, bytes_of-append, is_leaving-append, length-events_of}
use Rattle.session_turns.proofs.HistoryLemmas.{adds-none, adds-others, adds-own, adds-append}
use Rattle.session_events.specs.declared.event.Event.{Event}
use Rattle.session_events.specs.declared.event.Event.TheVariants.{Key as Struck, Refresh}
use Rattle.session_events.specs.declared.event.Entry.{Entry}
use Rattle.session_events.specs.declared.event.Output.{Output}
use Rattle.session_events.specs.Entries.{entry_with, is_leave, is_drawing}
use Rattle.session_events.specs.Meaning.{Gives, IsMeaning, rules, answer_of, entry_answers, told_by}
use Rattle.session_events.specs.Seats.{Seated, IsSameSeat, Steps, Sees}
use Rattle.session_events.proofs.MeaningLemmas.{told-nothing}
use Rattle.session_lines.specs.declared.playing.Stop.{Stop}
use Rattle.session_lines.specs.declared.playing.Stop.TheVariants as stop
use Rattle.session_lines.specs.Session.{keys_played}
use Rattle.session_lines.specs.declared.playing.Reply.{Reply}
use Rattle.session_lines.specs.Serving.{telling_bytes, AreTaken, AreCut, LeavesOut, IsAnswered}
use Rattle.session_lines.proofs.Indices.{none-below, next}

-- the growth of a client's part is that of the same client by another name
pub adds-as : (g : Gives) (x y : Seated) (old new : List Entry) (got : List (Answer Event)) → IsSameSeat x y → Adds (rules g) y.number old new got → Adds (rules g) x.number old new got
adds-as g x y old new got same a = subst (λ n. Adds (rules g) n old new got) same.number a

chosen : (leaves : Bool) (answer : Answer Event) → leaves ≡ false → (if leaves then [] else answer ∷ []) ≡ answer ∷ []
chosen true answer e = cc
chosen false answer e = refl

-- an event of the client's own was taken
pub steps-add : (g : Gives) (x y : Seated) (event : Event) (output : Output) → is_leave event ≡ false → Steps g x y event output → Adds (rules g) x.number x.seen y.seen (answer_of event output ∷ [])
steps-add g x y event output stays s =
    let here : List Entry = x.seen ++ s.between in
    let entry : Entry = entry_with x.number event s.answers in
    let said : entry_answers g here entry ≡ answer_of event output ∷ [] = chosen (is_leave event) (answer_of event (g here entry)) stays ∙ ap (λ o. answer_of event o ∷ []) (sym s.is) in
    let own : Adds (rules g) x.number here (here ++ entry ∷ []) (answer_of event output ∷ []) =
    subst (λ q. Adds (rules g) x.number here (here ++ entry ∷ []) q) said
    (adds-own (rules g) x.number here entry (eq-eqb x.number x.number refl) (ap events_of said)) in
    subst (λ h. Adds (rules g) x.number x.seen h (answer_of event output ∷ [])) (sym s.stands)
    (adds-append (rules g) x.number x.seen here (here ++ entry ∷ []) [] (answer_of event output ∷ []) (adds-others (rules g) x.number x.seen s.between s.foreign) own)

-- nothing of the client's own was added
pub sees-add : (g : Gives) (x y : Seated) → Sees g x y → Adds (rules g) x.number x.seen y.seen []
sees-add g x y s = subst (λ h. Adds (rules g) x.number x.seen h []) (sym s.stands) (adds-others (rules g) x.number x.seen s.between s.foreign)

pub or-false : (b : Bool) → (b || false) ≡ b
or-false true = refl
or-false false = refl

-- one event was taken
pub one-taken : (g : Gives) (x y : Seated) (event : Event) (output : Output) (out : List ℕ) → is_leave event ≡ false → Steps g x y event output → out ≡ told_by output → AreTaken g x y (event ∷ []) out output.leaving
one-taken g x y event output out stays s b = record {
  got = answer_of event output ∷ [];
  adds = steps-add g x y event output stays s;
  events_are = refl;
  bytes = b ∙ sym (append-nil (told_by output));
  leaving_is = or-false output.leaving;
}

none-short : (why : Stop) → LeavesOut why 0 1
none-short stop.HistoryFull = omega arith
none-short (stop.Broken at) = tt
none-short stop.NoMemory = tt
none-short stop.WriteFault = tt

-- one event was refused
pub one-refused : (g : Gives) (x y : Seated) (event : Event) (why : Stop) → Sees g x y → AreCut g x y (event ∷ []) why
one-refused g x y event why s = record {
  got = [];
  adds = sees-add g x y s;
  begins = (event ∷ [], refl);
  short = none-short why;
}

-- an event that is no drawing and no going was taken
pub silent-taken : (g : Gives) (x y : Seated) (event : Event) (output : Output) → is_leave event ≡ false → is_drawing event ≡ false → IsMeaning g → Steps g x y event output → AreTaken g x y (event ∷ []) [] output.leaving
silent-taken g x y event output stays silent m s = one-taken g x y event output [] stays s (sym (ap told_by s.is ∙ told-nothing g (x.seen ++ s.between) x.number event s.answers m silent))

-- the client was drawn
pub drawing-taken : (g : Gives) (asked : Bool) (x y : Seated) (output : Output) (out : List ℕ) → IsMeaning g → Steps g x y (Refresh asked) output → out ≡ told_by output → AreTaken g x y (Refresh asked ∷ []) out false
drawing-taken g asked x y output out m s b = subst (λ l. AreTaken g x y (Refresh asked ∷ []) out l) (ap (λ o. o.leaving) s.is ∙ m.stays (x.seen ++ s.between) x.number (Refresh asked) s.answers refl) (one-taken g x y (Refresh asked) output out refl s b)

-- no event was taken yet
pub none-taken : (g : Gives) (x : Seated) → AreTaken g x x [] [] false
none-taken g x = record { got = []; adds = adds-none (rules g) x.number x.seen; events_are = refl; bytes = refl; leaving_is = refl }

-- more events were taken behind the ones before
pub taken-more : (g : Gives) (a b c : Seated) (es fs : List Event) (x y : List ℕ) (l m : Bool) → IsSameSeat a b → AreTaken g a b es x l → AreTaken g b c fs y m → AreTaken g a c (es ++ fs) (x ++ y) (l || m)
taken-more g a b c es fs x y l m same s t = record {
  got = s.got ++ t.got;
  adds = adds-append (rules g) a.number a.seen b.seen c.seen s.got t.got s.adds (adds-as g a b b.seen c.seen t.got same t.adds);
  events_are = events_of-append s.got t.got ∙ ap (λ r. r ++ events_of t.got) s.events_are ∙ ap (λ r. es ++ r) t.events_are;
  bytes = ap (λ r. r ++ y) s.bytes ∙ ap (λ r. bytes_of s.got ++ r) t.bytes ∙ sym (bytes_of-append s.got t.got);
  leaving_is = is_leaving-append s.got t.got ∙ ap (λ r. r || is_leaving t.got) s.leaving_is ∙ ap (λ r. l || r) t.leaving_is;
}

out-more : (why : Stop) (m n k j : ℕ) → k ≡ m + n → LeavesOut why n j → LeavesOut why k (m + j)
out-more stop.HistoryFull m n k j e l = omega (arith, e, l)
out-more (stop.Broken at) m n k j e l = tt
out-more stop.NoMemory m n k j e l = tt
out-more stop.WriteFault m n k j e l = tt

-- a beginning was taken behind the events before
pub cut-after : (g : Gives) (a b c : Seated) (es fs : List Event) (x : List ℕ) (l : Bool) (why : Stop) → IsSameSeat a b → AreTaken g a b es x l → AreCut g b c fs why → AreCut g a c (es ++ fs) why
cut-after g a b c es fs x l why same s t = record {
  got = s.got ++ t.got;
  adds = adds-append (rules g) a.number a.seen b.seen c.seen s.got t.got s.adds (adds-as g a b b.seen c.seen t.got same t.adds);
  begins = (
    t.begins.0,
    ap (λ r. es ++ r) t.begins.1 ∙ sym (append_assoc es (events_of t.got) t.begins.0)
        ∙ ap (λ r. r ++ t.begins.0) (ap (λ r. r ++ events_of t.got) (sym s.events_are) ∙ sym (events_of-append s.got t.got)),
  );
  short = subst (λ n. LeavesOut why (length (s.got ++ t.got)) n) (sym (length-append es fs))
      (out-more why (length es) (length t.got) (length (s.got ++ t.got)) (length fs) (length-append s.got t.got ∙ ap (λ n. n + length t.got) (sym (length-events_of s.got) ∙ ap length s.events_are)) t.short);
}

out-behind : (why : Stop) (n j k : ℕ) → LeavesOut why n j → LeavesOut why n (j + k)
out-behind stop.HistoryFull n j k l = omega (arith, l)
out-behind (stop.Broken at) n j k l = tt
out-behind stop.NoMemory n j k l = tt
out-behind stop.WriteFault n j k l = tt

-- events behind a cut were not taken
pub cut-before : (g : Gives) (a b : Seated) (es fs : List Event) (why : Stop) → AreCut g a b es why → AreCut g a b (es ++ fs) why
cut-before g a b es fs why s = record {
  got = s.got;
  adds = s.adds;
  begins = (s.begins.0 ++ fs, ap (λ r. r ++ fs) s.begins.1 ∙ append_assoc (events_of s.got) s.begins.0 fs);
  short = subst (λ n. LeavesOut why (length s.got) n) (sym (length-append es fs)) (out-behind why (length s.got) (length es) (length fs) s.short);
}

key-next-at : (ks : List keys.Key) (i : ℕ) (d k : keys.Key) → i < length ks → get_or ks i d ≡ k → map (λ key. Struck key) (take (suc i) ks) ≡ map (λ key. Struck key) (take i ks) ++ Struck k ∷ []
key-next-at [] i d k lt e = absurd (none-below i lt)
key-next-at (x ∷ ks) zero d k lt e = ap (λ y. Struck y ∷ []) e
key-next-at (x ∷ ks) (suc i) d k lt e = ap (λ r. Struck x ∷ r) (key-next-at ks i d k (omega (arith, lt)) e)

keys-from-at : (ks : List keys.Key) (i : ℕ) (d k : keys.Key) → i < length ks → get_or ks i d ≡ k → keys_played ks ≡ map (λ key. Struck key) (take i ks) ++ (Struck k ∷ [] ++ keys_played (drop (suc i) ks))
keys-from-at [] i d k lt e = absurd (none-below i lt)
keys-from-at (x ∷ ks) zero d k lt e = ap (λ y. Struck y ∷ keys_played ks) e
keys-from-at (x ∷ ks) (suc i) d k lt e = ap (λ r. Struck x ∷ r) (keys-from-at ks i d k (omega (arith, lt)) e)

-- the key at a place, behind the keys before it
key-next : (ks : List keys.Key) (i : ℕ) (d k : keys.Key) → i < length ks → get_or ks i d ≡ k → map (λ key. Struck key) (take (i + 1) ks) ≡ map (λ key. Struck key) (take i ks) ++ Struck k ∷ []
key-next ks i d k lt e = ap (λ n. map (λ key. Struck key) (take n ks)) (sym (next i)) ∙ key-next-at ks i d k lt e

-- and the keys behind it
keys-from : (ks : List keys.Key) (i : ℕ) (d k : keys.Key) → i < length ks → get_or ks i d ≡ k → keys_played ks ≡ map (λ key. Struck key) (take i ks) ++ (Struck k ∷ [] ++ keys_played (drop (i + 1) ks))
keys-from ks i d k lt e = keys-from-at ks i d k lt e ∙ ap (λ n. map (λ key. Struck key) (take i ks) ++ (Struck k ∷ [] ++ keys_played (drop n ks))) (next i)

-- an event of the keys was refused
pub keys-cut : (g : Gives) (a b c : Seated) (ks : List keys.Key) (i : ℕ) (d : keys.Key) (x : List ℕ) (l : Bool) (why : Stop) → i < length ks → IsSameSeat a b
    → AreTaken g a b (map (λ key. Struck key) (take i ks)) x l → AreCut g b c (Struck (get_or ks i d) ∷ []) why → AreCut g a c (keys_played ks) why
keys-cut g a b c ks i d x l why lt same s t = subst (λ es. AreCut g a c es why) (sym (keys-from ks i d (get_or ks i d) lt refl))
    (cut-after g a b c (map (λ key. Struck key) (take i ks)) (Struck (get_or ks i d) ∷ [] ++ keys_played (drop (i + 1) ks)) x l why same s
    (cut-before g b c (Struck (get_or ks i d) ∷ []) (keys_played (drop (i + 1) ks)) why (t)))

all-struck : (ks : List keys.Key) (i : ℕ) → length ks ≤ i → keys_played ks ≡ map (λ key. Struck key) (take i ks) ++ Refresh true ∷ []
all-struck ks i le = ap keys_played (sym (take_all i ks le))

-- the drawing behind the keys was refused
pub draw-cut : (g : Gives) (a b c : Seated) (ks : List keys.Key) (i : ℕ) (x : List ℕ) (l : Bool) (why : Stop) → length ks ≤ i → IsSameSeat a b
    → AreTaken g a b (map (λ key. Struck key) (take i ks)) x l → AreCut g b c (Refresh true ∷ []) why → AreCut g a c (keys_played ks) why
draw-cut g a b c ks i x l why le same s t = subst (λ es. AreCut g a c es why) (sym (all-struck ks i le))
    (cut-after g a b c (map (λ key. Struck key) (take i ks)) (Refresh true ∷ []) x l why same s t)

-- the keys were struck, and the client was drawn
pub keys-taken : (g : Gives) (a b c : Seated) (ks : List keys.Key) (i : ℕ) (y : List ℕ) (l : Bool) → length ks ≤ i → IsSameSeat a b
    → AreTaken g a b (map (λ key. Struck key) (take i ks)) [] l → AreTaken g b c (Refresh true ∷ []) y false → AreTaken g a c (keys_played ks) y l
keys-taken g a b c ks i y l le same s t = subst (λ es. AreTaken g a c es y l) (sym (all-struck ks i le))
    (subst (λ m. AreTaken g a c (map (λ key. Struck key) (take i ks) ++ Refresh true ∷ []) y m) (or-false l)
    (taken-more g a b c (map (λ key. Struck key) (take i ks)) (Refresh true ∷ []) [] y l false same s t))

-- one event, and the drawing behind it: the event was refused, the drawing was, or both were taken
pub cut-drawn : (g : Gives) (a b : Seated) (event : Event) (why : Stop) → AreCut g a b (event ∷ []) why → AreCut g a b (event ∷ Refresh true ∷ []) why
cut-drawn g a b event why s = cut-before g a b (event ∷ []) (Refresh true ∷ []) why s

pub drawn-cut : (g : Gives) (a b c : Seated) (event : Event) (l : Bool) (why : Stop) → IsSameSeat a b → AreTaken g a b (event ∷ []) [] l → AreCut g b c (Refresh true ∷ []) why → AreCut g a c (event ∷ Refresh true ∷ []) why
drawn-cut g a b c event l why same s t = cut-after g a b c (event ∷ []) (Refresh true ∷ []) [] l why same s t

pub drawn-behind : (g : Gives) (a b c : Seated) (event : Event) (y : List ℕ) (l : Bool) → IsSameSeat a b → AreTaken g a b (event ∷ []) [] l → AreTaken g b c (Refresh true ∷ []) y false → AreTaken g a c (event ∷ Refresh true ∷ []) y l
drawn-behind g a b c event y l same s t =
    subst (λ m. AreTaken g a c (event ∷ Refresh true ∷ []) y m) (or-false l) (taken-more g a b c (event ∷ []) (Refresh true ∷ []) [] y l false same s t)

-- one more key was struck
pub struck-more : (g : Gives) (a b c : Seated) (ks : List keys.Key) (i : ℕ) (d : keys.Key) (l m : Bool) → i < length ks → IsSameSeat a b
    → AreTaken g a b (map (λ key. Struck key) (take i ks)) [] l → AreTaken g b c (Struck (get_or ks i d) ∷ []) [] m → AreTaken g a c (map (λ key. Struck key) (take (i + 1) ks)) [] (l || m)
struck-more g a b c ks i d l m lt same s t = subst (λ es. AreTaken g a c es [] (l || m)) (sym (key-next ks i d (get_or ks i d) lt refl))
    (taken-more g a b c (map (λ key. Struck key) (take i ks)) (Struck (get_or ks i d) ∷ []) [] [] l m same s t)

-- a phase whose events were taken, and which says nothing itself
pub keys-answered : (g : Gives) (a b : Seated) (es : List Event) (reply : Reply) → AreTaken g a b es (telling_bytes reply.telling) reply.leaving → IsAnswered g a b es [] reply
keys-answered g a b es reply t = record { out = telling_bytes reply.telling; taken = t; told = sym (append-nil (telling_bytes reply.telling)) }

-- a phase that has no event, and says this
pub said-answered : (g : Gives) (x : Seated) (es : List Event) (said : List ℕ) (reply : Reply) → es ≡ [] → telling_bytes reply.telling ≡ said → reply.leaving ≡ false → IsAnswered g x x es said reply
said-answered g x es said reply none told stays = record {
  out = [];
  taken = record { got = []; adds = adds-none (rules g) x.number x.seen; events_are = sym none; bytes = refl; leaving_is = sym stays };
  told = told;
}

-- a phase of whose events none was taken
pub none-answered : (g : Gives) (x : Seated) (es : List Event) → AreCut g x x es stop.NoMemory
none-answered g x es = record { got = []; adds = adds-none (rules g) x.number x.seen; begins = (es, refl); short = tt }
