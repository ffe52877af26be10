-- The opening of a connection, whose client has joined and done nothing else.
use Rattle.std.proofs.Common.{◌≡◌, ℕ, Bool, true, false, List, [], ◌∷◌, ◌++◌, drop, get_or, ◌||◌, refl, sym, ap, ◌∙◌, subst}
use Rattle.std.specs.Prelude.{if◌then◌else◌, ◌==◌}
use Rattle.key_names.specs.declared.key.Key.{Key}
use Rattle.session_turns.specs.Histories.{Answer, own, answers, answers_behind, is_leaving}
use Rattle.session_turns.specs.Growth.{Adds}
use Rattle.session_turns.proofs.HistoryLemmas.{answers_behind-others, adds-others, adds-append, adds-answers, adds-own_events}
use Rattle.session_events.specs.declared.event.Event.{Event}
use Rattle.session_events.specs.declared.event.Event.TheVariants.{Join}
use Rattle.session_events.specs.declared.event.Answered.{Answered}
use Rattle.session_events.specs.declared.event.Entry.{Entry}
use Rattle.session_events.specs.declared.event.Output.{Output}
use Rattle.session_events.specs.Entries.{entry_with}
use Rattle.session_events.specs.Meaning.{Gives, IsMeaning, rules, answer_of, entry_answers}
use Rattle.session_events.proofs.MeaningLemmas.{told-nothing}
use Rattle.session_events.specs.Seats.{Seated, IsSameSeat, Steps}
use Rattle.session_lines.specs.declared.playing.Stop.{Stop}
use Rattle.session_lines.specs.Session.{keys_played}
use Rattle.session_lines.specs.declared.playing.Reply.{Reply}
use Rattle.session_lines.specs.Serving.{HasOnlyCome, AreTaken, AreCut, IsAnswered, unseen}
use Rattle.session_lines.proofs.TakingLemmas.{steps-add, or-false, taken-more, cut-after}

-- what joining is answered: no bytes, and whether the client was let go by it
abbrev join_answer : Bool → Answer Event
join_answer let_go = record { event = Join; bytes = []; leaving = let_go }

abbrev silent : Bool → List ℕ → List (Answer Event)
silent let_go bytes = record { event = Join; bytes = bytes; leaving = let_go } ∷ []

answers-join : (g : Gives) (before : List Entry) (who : ℕ) (event : Event) (answers : List Answered) → IsMeaning g → event ≡ Join → (let_go : Bool) × (entry_answers g before (entry_with who event answers) ≡ join_answer let_go ∷ [])
answers-join g before who event answers m e =
    let P : Event → Type 0 = λ x. (let_go : Bool) × (entry_answers g before (entry_with who x answers) ≡ join_answer let_go ∷ []) in
    let let_go : Bool = (g before (entry_with who Join answers)).leaving in
    subst P (sym e) (let_go, ap (silent let_go) (told-nothing g before who Join answers m refl))

-- an answer to joining alone says whether the client was let go
alone : (x : List (Answer Event)) (b l : Bool) → x ≡ join_answer b ∷ [] → is_leaving x ≡ l → x ≡ join_answer l ∷ []
alone x b l e f = e ∙ ap (λ (q : Bool). join_answer q ∷ []) (sym (or-false b) ∙ sym (ap is_leaving e) ∙ f)

joined-step : (t : Bool) (e : Event) (es : List Event) (g h : List (Answer Event)) (l : Bool) → (e ≡ Join → (b : Bool) × (g ≡ join_answer b ∷ [])) → (es ≡ [] → h ≡ []) → (es ≡ Join ∷ [] → is_leaving h ≡ l → h ≡ join_answer l ∷ [])
    → (if t then e ∷ es else es) ≡ Join ∷ [] → is_leaving (if t then g ++ h else h) ≡ l → (if t then g ++ h else h) ≡ join_answer l ∷ []
joined-step true e es g h l f k n d x =
    let first = f (ap (λ q. get_or q 0 Join) d) in
    alone (g ++ h) first.0 l (ap (λ q. q ++ h) first.1 ∙ ap (λ q. join_answer first.0 ∷ q) (k (ap (λ q. drop 1 q) d))) x
joined-step false e es g h l f k n d x = n d x

no-join : {A : Type 0} (x : A) → [] ≡ x ∷ [] → ⊥
no-join x e = cc

-- a client whose only event is its joining was answered that
joined-answers : (g : Gives) (who : ℕ) (before history : List Entry) (l : Bool) → IsMeaning g → own (rules g) who history ≡ Join ∷ [] → is_leaving (answers_behind (rules g) who before history) ≡ l → answers_behind (rules g) who before history ≡ join_answer l ∷ []
joined-answers g who before [] l m e x = absurd (no-join Join e)
joined-answers g who before (n ∷ history) l m e x =
    joined-step (n.who == who) n.event (own (rules g) who history) (entry_answers g before n) (answers_behind (rules g) who (before ++ n ∷ []) history) l
    (answers-join g before n.who n.event n.answers m) (answers_behind-others (rules g) who (before ++ n ∷ []) history) (joined-answers g who (before ++ n ∷ []) history l m) e x

-- the joining was taken
joined-taken : (g : Gives) (x : Seated) (l : Bool) → IsMeaning g → HasOnlyCome g x l → AreTaken g (unseen x) x (Join ∷ []) [] l
joined-taken g x l m new = record {
  got = join_answer l ∷ [];
  adds = record { more = x.seen; grows = refl; answered = joined-answers g x.number [] x.seen l m new.comes new.let_go_is; events = new.comes };
  events_are = refl;
  bytes = refl;
  leaving_is = or-false l;
}

same-unseen : (x : Seated) → IsSameSeat (unseen x) x
same-unseen x = record { number = refl; limit = refl; others = refl }

-- what a client is told, which may leave by its coming too
abbrev pub let_go_or : Bool → Reply → Reply
let_go_or let_go reply = record reply { leaving = let_go || reply.leaving }

-- the keys, and the drawing, were taken behind the joining
pub opening-taken : (g : Gives) (x y : Seated) (keys : List Key) (l : Bool) (reply : Reply) → IsMeaning g → HasOnlyCome g x l → IsAnswered g x y (keys_played keys) [] reply → IsAnswered g (unseen x) y (Join ∷ keys_played keys) [] (let_go_or l reply)
opening-taken g x y keys l reply m new t = record { out = t.out; taken = taken-more g (unseen x) x y (Join ∷ []) (keys_played keys) [] t.out l reply.leaving (same-unseen x) (joined-taken g x l m new) t.taken; told = t.told }

-- one of the keys, or the drawing, was refused or lost
pub opening-cut : (g : Gives) (x y : Seated) (keys : List Key) (l : Bool) (why : Stop) → IsMeaning g → HasOnlyCome g x l → AreCut g x y (keys_played keys) why → AreCut g (unseen x) y (Join ∷ keys_played keys) why
opening-cut g x y keys l why m new t = cut-after g (unseen x) x y (Join ∷ []) (keys_played keys) [] l why (same-unseen x) (joined-taken g x l m new) t

-- a client that had no entry came
pub came-only : (g : Gives) (x y : Seated) (output : Output) → IsSameSeat x y → own (rules g) x.number x.seen ≡ [] → Steps g x y Join output → HasOnlyCome g y output.leaving
came-only g x y output same none s =
    let got : List (Answer Event) = answer_of Join output ∷ [] in
    let all : Adds (rules g) x.number [] y.seen got = adds-append (rules g) x.number [] x.seen y.seen [] got (adds-others (rules g) x.number [] x.seen none) (steps-add g x y Join output refl s) in
    record {
      comes = subst (λ n. own (rules g) n y.seen ≡ Join ∷ []) (sym same.number) (adds-own_events (rules g) x.number y.seen got all);
      let_go_is = subst (λ n. is_leaving (answers (rules g) n y.seen) ≡ output.leaving) (sym same.number) (ap is_leaving (adds-answers (rules g) x.number y.seen got all) ∙ or-false output.leaving);
    }
