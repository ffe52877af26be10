-- What was tried of the texts that are to be rescued, one after another.
use Rattle.std.proofs.Common.{◌≡◌, ℕ, zero, suc, ◌+◌, ◌-◌, ◌^◌, ◌≤◌, ◌<◌, Bool, true, false, ◌||◌, List, [], ◌∷◌, ◌++◌, length, map, refl, sym, ap, ◌∙◌, subst, arith}
use Rattle.std.specs.Prelude.{min, cond, count_by, is_none, if◌then◌else◌, slice_index_or, Some, None, Ok, Err, IfOk}
use Rattle.std.specs.List.{list_any}
use Rattle.std.specs.declared.option.Option.{Option}
use Rattle.std.specs.declared.result.Result.{Result}
use Rattle.std.specs.declared.alloc.AllocError.{AllocError}
use Rattle.std.proofs.lemmas.List.{append_assoc, append_cancel_left, length-append, length-map, map-append}
use Rattle.std.proofs.lemmas.List.Folds.{list_any-append}
use Rattle.std.proofs.lemmas.List.Sums.{sum_by-append, sum_by-cons}
use Rattle.std.proofs.Math.Nat.{min-le_left, min-le_right, le-min}
use Rattle.kak_files.specs.Files.{one_more, raised}
use Rattle.kak_files.specs.Exchanges.{Exchange, Written, exchange_fails, failures}
use Rattle.kak_ports.specs.Ports.{Rose}
use Rattle.kak_ports.specs.declared.sink.Put.{Put}
use Rattle.kak_ports.specs.declared.sink.Put.TheVariants as put
use Rattle.undo_model.specs.Stories.{is_modified}
use Rattle.kak_world.specs.declared.slots.TheConstants.{MAX_BUFFERS}
use Rattle.kak_world.specs.Flat.{Buffer, Flat, opening}
use Rattle.command_set.specs.Files.{saved_bytes}
use Rattle.session_events.specs.declared.event.Answered.{Answered}
use Rattle.kak_engine.specs.Asking.{Asked, OfFile, files_in}
use Rattle.kak_engine.specs.Honesty.{Outside, IsHonest, WritesFile}
use Rattle.kak_engine.specs.Rescue.{rescue_file, rescuing, Due, due_of, due_below, due, Attempt, ask_of, answer_of, asks_of, answers_of, is_done, is_wanting, AreTried, Rescues}
use Rattle.kak_engine.proofs.HonestLemmas.{honest-same, honest-behind, files_in-append}

pub tried-none : (x y : Outside) → y ≡ x → AreTried [] 0 false x y
tried-none x y same = record { attempts = []; each = refl; honest = honest-same x y same; done_is = refl; wanting_is = refl }

-- one text that was tried
pub tried-done : (d : Due) (x y : Outside) → WritesFile put.Done d.file d.bytes x y → AreTried (d ∷ []) 1 false x y
tried-done d x y h = record { attempts = record { due = d; answer = Some put.Done } ∷ []; each = refl; honest = h; done_is = refl; wanting_is = refl }

pub tried-failed : (d : Due) (x y : Outside) → WritesFile put.Failed d.file d.bytes x y → AreTried (d ∷ []) 0 false x y
tried-failed d x y h = record { attempts = record { due = d; answer = Some put.Failed } ∷ []; each = refl; honest = h; done_is = refl; wanting_is = refl }

pub tried-wanting : (d : Due) (x y : Outside) → y ≡ x → AreTried (d ∷ []) 0 true x y
tried-wanting d x y same = record { attempts = record { due = d; answer = None } ∷ []; each = refl; honest = honest-same x y same; done_is = refl; wanting_is = refl }

-- what is due of a buffer
pub nothing-there : (n : ℕ) (flat : Flat) (slot : Option Buffer) → slot ≡ None → due_of n flat slot ≡ []
nothing-there n flat slot e = ap (due_of n flat) e

pub nothing-new : (n : ℕ) (flat : Flat) (slot : Option Buffer) (b : Buffer) → slot ≡ Some b → is_modified b.story ≡ false → due_of n flat slot ≡ []
nothing-new n flat slot b e m = ap (due_of n flat) e ∙ ap (λ (t : Bool). if t then due-one n flat b ∷ [] else []) m
  where
    due-one : ℕ → Flat → Buffer → Due
    due-one n flat b = record { file = rescue_file b.name; bytes = saved_bytes (rescuing n b.name) flat }

pub something-new : (n : ℕ) (flat : Flat) (slot : Option Buffer) (b : Buffer) → slot ≡ Some b → is_modified b.story ≡ true → due_of n flat slot ≡ record { file = rescue_file b.name; bytes = saved_bytes (rescuing n b.name) flat } ∷ []
something-new n flat slot b e m = ap (due_of n flat) e ∙ ap (λ (t : Bool). if t then due-one n flat b ∷ [] else []) m
  where
    due-one : ℕ → Flat → Buffer → Due
    due-one n flat b = record { file = rescue_file b.name; bytes = saved_bytes (rescuing n b.name) flat }

pub tried-as : (a b : List Due) (done : ℕ) (wanting : Bool) (x y : Outside) → b ≡ a → AreTried a done wanting x y → AreTried b done wanting x y
tried-as a b done wanting x y e t = subst (λ (d : List Due). AreTried d done wanting x y) (sym e) t

-- some texts behind others
asks_of-append : (a b : List Attempt) → asks_of (a ++ b) ≡ asks_of a ++ asks_of b
asks_of-append [] b = refl
asks_of-append (x ∷ a) b = ap (λ (q : List Asked). ask_of x.due x.answer ++ q) (asks_of-append a b) ∙ sym (append_assoc (ask_of x.due x.answer) (asks_of a) (asks_of b))

answers_of-append : (a b : List Attempt) → answers_of (a ++ b) ≡ answers_of a ++ answers_of b
answers_of-append [] b = refl
answers_of-append (x ∷ a) b = ap (λ (q : List Answered). answer_of x.answer ++ q) (answers_of-append a b) ∙ sym (append_assoc (answer_of x.answer) (answers_of a) (answers_of b))

pub tried-more : (a b : List Due) (d e : ℕ) (v w : Bool) (x y z : Outside) → AreTried a d v x y → AreTried b e w y z → AreTried (a ++ b) (d + e) (v || w) x z
tried-more a b d e v w x y z r s = record {
  attempts = r.attempts ++ s.attempts;
  each = map-append (λ (t : Attempt). t.due) r.attempts s.attempts ∙ ap (λ (q : List Due). q ++ map (λ (t : Attempt). t.due) s.attempts) r.each ∙ ap (λ (q : List Due). a ++ q) s.each;
  honest = subst (λ (q : List Answered). IsHonest q (asks_of (r.attempts ++ s.attempts)) x z) (sym (answers_of-append r.attempts s.attempts)) (
      subst (λ (q : List Asked). IsHonest (answers_of r.attempts ++ answers_of s.attempts) q x z) (sym (asks_of-append r.attempts s.attempts))
      (honest-behind (answers_of r.attempts) (answers_of s.attempts) (asks_of r.attempts) (asks_of s.attempts) x y z r.honest s.honest));
  done_is = ap (λ n. n + e) r.done_is ∙ ap (λ n. count_by is_done r.attempts + n) s.done_is ∙ sym (sum_by-append (λ (t : Attempt). cond (is_done t) 1 0) r.attempts s.attempts);
  wanting_is = ap (λ t. t || w) r.wanting_is ∙ ap (λ t. list_any is_wanting r.attempts || t) s.wanting_is ∙ sym (list_any-append is_wanting r.attempts s.attempts);
}

-- of one buffer more
pub tried-next : (n : ℕ) (flat : Flat) (d e : ℕ) (v w : Bool) (x y z : Outside) → AreTried (due_below n flat) d v x y → AreTried (due_of n flat (slice_index_or flat.buffers n None)) e w y z → AreTried (due_below (n + 1) flat) (d + e) (v || w) x z
tried-next n flat d e v w x y z r s =
    let one : suc n ≡ n + 1 = omega arith in
    subst (λ (k : ℕ). AreTried (due_below k flat) (d + e) (v || w) x z) one (tried-more (due_below n flat) (due_of n flat (slice_index_or flat.buffers n None)) d e v w x y z r s)

pub tried-both : (n : ℕ) (flat : Flat) (d e done : ℕ) (v w wanting : Bool) (x y z : Outside) → done ≡ d + e → wanting ≡ (v || w)
    → AreTried (due_below n flat) d v x y → AreTried (due_of n flat (slice_index_or flat.buffers n None)) e w y z → AreTried (due_below (n + 1) flat) done wanting x z
tried-both n flat d e done v w wanting x y z more either r s =
    subst (λ (k : ℕ). AreTried (due_below (n + 1) flat) k wanting x z) (sym more)
    (subst (λ (k : Bool). AreTried (due_below (n + 1) flat) (d + e) k x z) (sym either) (tried-next n flat d e v w x y z r s))

-- all of a world's
pub due-is : (n : ℕ) (flat : Flat) → n ≡ MAX_BUFFERS → due flat ≡ due_below n flat
unfolding due
due-is n flat e = ap (λ (k : ℕ). due_below k flat) (sym e)

pub tried-all : (n done : ℕ) (wanting : Bool) (flat : Flat) (x y : Outside) → n ≡ MAX_BUFFERS → AreTried (due_below n flat) done wanting x y → AreTried (due flat) done wanting x y
tried-all n done wanting flat x y e t = tried-as (due_below n flat) (due flat) done wanting x y (due-is n flat e) t

-- nothing is due before anything happened
opening-slot : (n : ℕ) → due_of n opening (slice_index_or opening.buffers n None) ≡ []
opening-slot zero = refl
opening-slot (suc n) = refl

opening-below : (n : ℕ) → due_below n opening ≡ []
opening-below zero = refl
opening-below (suc n) = ap (λ (q : List Due). q ++ due_of n opening (slice_index_or opening.buffers n None)) (opening-below n) ∙ opening-slot n

pub nothing-due : (o : Outside) → Rescues opening (Ok 0) o o
nothing-due o = tried-as [] (due opening) 0 false o o (due-is MAX_BUFFERS opening refl ∙ opening-below MAX_BUFFERS) (tried-none o o refl)

-- where memory was wanting for none, each that wasn't written failed
or-false : (a b : Bool) → (a || b) ≡ false → (a ≡ false) × (b ≡ false)
or-false true b e = cc
or-false false b e = (refl, e)

answered : (due : Due) (answer : Option Put) → is_none answer ≡ false → failures (files_in (ask_of due answer)) + cond (is_done (record { due = due; answer = answer })) 1 0 ≡ 1
answered due (Some put.Done) e = refl
answered due (Some put.Failed) e = refl
answered due None e = cc

pub one-each : (attempts : List Attempt) → list_any is_wanting attempts ≡ false → failures (files_in (asks_of attempts)) + count_by is_done attempts ≡ length attempts
one-each [] e = refl
one-each (t ∷ later) e =
    let parts = or-false (is_wanting t) (list_any is_wanting later) e in
    let one = answered t.due t.answer parts.0 in
    let rest = one-each later parts.1 in
    let fails : failures (files_in (ask_of t.due t.answer ++ asks_of later)) ≡ failures (files_in (ask_of t.due t.answer)) + failures (files_in (asks_of later))
    = ap failures (files_in-append (ask_of t.due t.answer) (asks_of later)) ∙ sum_by-append (λ (x : Exchange). cond (exchange_fails x) 1 0) (files_in (ask_of t.due t.answer)) (files_in (asks_of later)) in
    let dones : count_by is_done (t ∷ later) ≡ cond (is_done t) 1 0 + count_by is_done later = sum_by-cons (λ (x : Attempt). cond (is_done x) 1 0) t later in
    omega (arith, one, rest, fails, dones)

-- and each was asked for
asked-once : (due : Due) (answer : Option Put) → is_none answer ≡ false → length (ask_of due answer) ≡ 1
asked-once due (Some answer) e = refl
asked-once due None e = cc

asked-each : (attempts : List Attempt) → list_any is_wanting attempts ≡ false → length (asks_of attempts) ≡ length attempts
asked-each [] e = refl
asked-each (t ∷ later) e =
    let parts = or-false (is_wanting t) (list_any is_wanting later) e in
    length-append (ask_of t.due t.answer) (asks_of later) ∙ ap (λ n. n + length (asks_of later)) (asked-once t.due t.answer parts.0) ∙ ap (λ n. 1 + n) (asked-each later parts.1) ∙ omega arith

-- who asked for one thing alone hasn't tried two texts
pub one-alone : (d e : Due) (what : Asked) (done : ℕ) (old new : Outside) → new.asked ≡ old.asked ++ what ∷ [] → AreTried (d ∷ e ∷ []) done false old new → ⊥
one-alone d e what done old new asked t =
    let same : asks_of t.attempts ≡ what ∷ [] = append_cancel_left old.asked (asks_of t.attempts) (what ∷ []) (sym t.honest.trace ∙ asked) in
    let count : length t.attempts ≡ 2 = sym (length-map t.attempts (λ (a : Attempt). a.due)) ∙ ap length t.each in
    let each = asked-each t.attempts (sym t.wanting_is) in
    let one : length (asks_of t.attempts) ≡ 1 = ap length same in
    absurd (omega (arith, count, each, one))

-- a count that rose once at least
raised-stood : (times count : ℕ) → min count (2 ^ 64 - 1) ≤ raised times count
raised-stood zero count = min-le_left count (2 ^ 64 - 1)
raised-stood (suc times) count = on (2 ^ 64 - 1) (raised times (one_more count)) count (raised-stood times (one_more count))
  where
    on : (most now count : ℕ) → min (min (count + 1) most) most ≤ now → min count most ≤ now
    on most now count h =
        let low : min count most ≤ min (count + 1) most = le-min (omega (arith, min-le_left count most)) (min-le_right count most) in
        let lower : min count most ≤ min (min (count + 1) most) most = le-min low (min-le_right count most) in
        omega (arith, lower, h)

raised-rose : (times count : ℕ) → 0 < times → Rose count (raised times count)
raised-rose zero count some = let no : ⊥ = omega (arith, some) in absurd no
raised-rose (suc times) count some = on (2 ^ 64 - 1) (raised times (one_more count)) count (raised-stood times (one_more count))
  where
    on : (most now count : ℕ) → min (min (count + 1) most) most ≤ now → min (count + 1) most ≤ now
    on most now count h =
        let lower : min (count + 1) most ≤ min (min (count + 1) most) most = le-min (omega arith) (min-le_right (count + 1) most) in
        omega (arith, lower, h)

-- the text of a buffer whose name was read was tried
abbrev due_as : ℕ → Flat → List ℕ → Due
due_as n flat name = record { file = rescue_file name; bytes = saved_bytes (rescuing n name) flat }

due-read : (n : ℕ) (flat : Flat) (slot : Option Buffer) (b : Buffer) (name : List ℕ) → Some b ≡ slot → is_modified b.story ≡ true → name ≡ b.name → due_of n flat slot ≡ due_as n flat name ∷ []
due-read n flat slot b name there modified same = something-new n flat slot b (sym there) modified ∙ ap (λ (k : List ℕ). due_as n flat k ∷ []) (sym same)

pub read-done : (n : ℕ) (flat : Flat) (slot : Option Buffer) (b : Buffer) (name : List ℕ) (answer : Put) (x y : Outside) → Some b ≡ slot → is_modified b.story ≡ true → name ≡ b.name → answer ≡ put.Done
    → WritesFile answer (rescue_file name) (saved_bytes (rescuing n name) flat) x y → AreTried (due_of n flat slot) 1 false x y
read-done n flat slot b name answer x y there modified same is wrote =
    tried-as (due_as n flat name ∷ []) (due_of n flat slot) 1 false x y (due-read n flat slot b name there modified same)
    (tried-done (due_as n flat name) x y (subst (λ (p : Put). WritesFile p (rescue_file name) (saved_bytes (rescuing n name) flat) x y) is wrote))

pub read-failed : (n : ℕ) (flat : Flat) (slot : Option Buffer) (b : Buffer) (name : List ℕ) (answer : Put) (x y : Outside) → Some b ≡ slot → is_modified b.story ≡ true → name ≡ b.name → answer ≡ put.Failed
    → WritesFile answer (rescue_file name) (saved_bytes (rescuing n name) flat) x y → AreTried (due_of n flat slot) 0 false x y
read-failed n flat slot b name answer x y there modified same is wrote =
    tried-as (due_as n flat name ∷ []) (due_of n flat slot) 0 false x y (due-read n flat slot b name there modified same)
    (tried-failed (due_as n flat name) x y (subst (λ (p : Put). WritesFile p (rescue_file name) (saved_bytes (rescuing n name) flat) x y) is wrote))

pub read-wanting : (n : ℕ) (flat : Flat) (slot : Option Buffer) (b : Buffer) (x y : Outside) → Some b ≡ slot → is_modified b.story ≡ true → y ≡ x → AreTried (due_of n flat slot) 0 true x y
read-wanting n flat slot b x y there modified same =
    tried-as (due_as n flat b.name ∷ []) (due_of n flat slot) 0 true x y (due-read n flat slot b b.name there modified refl) (tried-wanting (due_as n flat b.name) x y same)

-- where fewer were written than there are, the files' count of faults rose
pub tried-rose : (dues : List Due) (done : ℕ) (x y : Outside) → AreTried dues done false x y → done < length dues → Rose x.shelf.faults y.shelf.faults
tried-rose dues done x y t few =
    let count : length t.attempts ≡ length dues = sym (length-map t.attempts (λ (a : Attempt). a.due)) ∙ ap length t.each in
    let all = one-each t.attempts (sym t.wanting_is) in
    let some : 0 < failures (files_in (asks_of t.attempts)) = omega (arith, few, count, all, t.done_is) in
    subst (λ n. Rose x.shelf.faults n) (sym t.honest.files.counted) (raised-rose (failures (files_in (asks_of t.attempts))) x.shelf.faults some)

pub tried-fewer : (dues : List Due) (done : ℕ) (wanting : Bool) (x y : Outside) → wanting ≡ false → AreTried dues done wanting x y → done < length dues → Rose x.shelf.faults y.shelf.faults
tried-fewer dues done wanting x y none t few = tried-rose dues done x y (subst (λ (w : Bool). AreTried dues done w x y) none t) few
