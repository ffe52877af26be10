-- The world after one more entry.
use Rattle.std.proofs.Common.{◌≡◌, ℕ, zero, suc, ◌≤◌, Bool, true, false, List, [], ◌∷◌, ◌++◌, length, drop, refl, sym, ap, ◌∙◌, subst, inl, inr, arith, append-nil}
use Rattle.std.specs.Prelude.{◌⊎◌, Some, None, IfSome, ◌==◌}
use Rattle.std.specs.declared.option.Option.{Option}
use Rattle.std.proofs.lemmas.List.{append_assoc}
use Rattle.kak_files.specs.Files.{Shelf}
use Rattle.kak_files.specs.Exchanges.{Exchange}
use Rattle.kak_world.specs.declared.world.TheConstants.{MAX_CLIENTS}
use Rattle.kak_world.specs.Flat.{Flat, opening, is_here as is_among, is_joined}
use Rattle.session_events.specs.declared.event.Event.{Event}
use Rattle.session_events.specs.declared.event.Event.TheVariants.{Join, Key as Struck, Resize, Scroll, Mouse as Pointed, Refresh, Leave}
use Rattle.session_events.specs.declared.event.Answered.{Answered}
use Rattle.session_events.specs.declared.event.Entry.{Entry}
use Rattle.session_events.specs.declared.kind.Kind.{Kind}
use Rattle.session_events.specs.declared.kind.Kind.TheVariants.{Coming, Doing, Drawing, Going}
use Rattle.session_events.specs.Entries.{kind_of, is_going, is_join, is_leave, entry_of, entry_with}
use Rattle.session_events.specs.Legal.{Away, is_here, presence_from, AreLeavings, IsLegal}
use Rattle.kak_engine.specs.Asking.{Asked, files_in}
use Rattle.kak_engine.specs.Steps.{after_entry, after_event, asked_by, asked_from, asked_in, exchanges, run_from, run, AreAskedFor, AllAskedFrom, AllAsked, IsStepLeft}
use Rattle.kak_engine.specs.Held.{EngineStands, CanRun, files_told, refused_at, refused_by}
use Rattle.kak_engine.specs.Honesty.{Outside, IsUntouched, IsHonest, IsKept}
use Rattle.kak_engine.proofs.HereLemmas.{few-more}
use Rattle.kak_engine.proofs.HonestLemmas.{files_in-append, honest-none, kept-first, kept-more}
use Rattle.kak_engine.proofs.LegalLemmas.{allowed, can-run, lives-more, within-more, presence-more, in-behind}
use Rattle.kak_engine.proofs.PresenceLemmas.{there_after, presence-after, here-after, joined-after, few-after}

pub run_from-append : (flat : Flat) (a b : List Entry) → run_from flat (a ++ b) ≡ run_from (run_from flat a) b
run_from-append flat [] b = refl
run_from-append flat (e ∷ a) b = run_from-append (after_entry e flat) a b

pub run-more : (history : List Entry) (who : ℕ) (event : Event) (answers : List Answered) → run (history ++ entry_with who event answers ∷ []) ≡ after_event who event answers (run history)
run-more history who event answers = run_from-append opening history (entry_with who event answers ∷ [])

-- one entry more, whose answers are what was asked for
pub asked-more : (flat : Flat) (history : List Entry) (e : Entry) → AllAskedFrom flat history → AreAskedFor e.who e.event e.answers (run_from flat history) → AllAskedFrom flat (history ++ e ∷ [])
asked-more flat [] e all one = (one, tt)
asked-more flat (x ∷ history) e all one = (all.0, asked-more (after_entry x flat) history e all.1 one)

-- an engine that refuses nothing isn't broken
pub mark-none : (mark : Option ℕ) (history : List Entry) (limit who : ℕ) (event : Event) → refused_at mark history limit who event ≡ None → mark ≡ None
mark-none None history limit who event e = refl
mark-none (Some at) history limit who event e = cc

pub refused-none : (mark : Option ℕ) (history : List Entry) (limit who : ℕ) (event : Event) → refused_at mark history limit who event ≡ None → refused_by history limit who event ≡ None
refused-none None history limit who event e = e
refused-none (Some at) history limit who event e = cc

-- an event that such an engine doesn't refuse can be run
pub can-step : (flat : Flat) (history : List Entry) (mark : Option ℕ) (limit : ℕ) (shelf : Option Shelf) (who : ℕ) (event : Event) → EngineStands flat history mark limit shelf → refused_at mark history limit who event ≡ None → CanRun (kind_of event) who flat
can-step flat history mark limit shelf who event s r =
    let free : mark ≡ None = mark-none mark history limit who event r in
    can-run history limit who event flat (s.world free) (s.known free) (s.here free) s.legal (refused-none mark history limit who event r)

no-leavings : (n : ℕ) → AreLeavings (drop n [])
no-leavings zero = tt
no-leavings (suc n) = tt

nobody-joined : (who : ℕ) → is_joined who opening ≡ false
unfolding is_joined
nobody-joined who = refl

-- what the outside was asked for behind one more entry
pub asked_in-more : (flat : Flat) (history : List Entry) (who : ℕ) (event : Event) (answers : List Answered)
    → asked_from flat (history ++ entry_with who event answers ∷ []) ≡ asked_from flat history ++ asked_by who event answers (run_from flat history)
asked_in-more flat [] who event answers = append-nil (asked_by who event answers flat)
asked_in-more flat (e ∷ history) who event answers =
    ap (λ (x : List Asked). asked_by e.who e.event e.answers flat ++ x) (asked_in-more (after_entry e flat) history who event answers)
    ∙ sym (append_assoc (asked_by e.who e.event e.answers flat) (asked_from (after_entry e flat) history) (asked_by who event answers (run_from (after_entry e flat) history)))

-- an engine to which nothing happened stands
pub stands-first : (flat : Flat) (history : List Entry) (limit : ℕ) (shelf : Shelf) → flat ≡ opening → history ≡ [] → IsUntouched shelf.told → EngineStands flat history None limit (Some shelf)
stands-first flat history limit shelf e k fresh = record {
  world = λ m. e ∙ ap run (sym k);
  known = λ m q. ap (is_joined q) e ∙ nobody-joined q ∙ ap (λ h. is_here (presence_from q Away h)) (sym k);
  here = λ m q. ap (λ f. is_among q f.clients) e ∙ ap (λ h. is_here (presence_from q Away h)) (sym k);
  few = λ m. subst (λ f. length f.clients ≤ MAX_CLIENTS) (sym e) (omega arith);
  kept = λ m. subst (λ h. IsKept (exchanges h) shelf) (sym k) (kept-first shelf.told fresh);
  legal = subst (IsLegal limit) (sym k) (record { lives = λ q. refl; within = no-leavings limit; few = omega arith });
  asked = subst AllAsked (sym k) tt;
  marked = tt;
}

-- an engine goes on to stand
pub stands-more : (before now : Flat) (history new : List Entry) (mark : Option ℕ) (limit : ℕ) (rescued : Bool) (x y : Outside) (who : ℕ) (event : Event) (answers : List Answered) → EngineStands before history mark limit (files_told rescued x.shelf) → refused_at mark history limit who event ≡ None
    → (is_join event ≡ true → is_joined who now ≡ true) → now ≡ after_event who event answers before → AreAskedFor who event answers before → IsHonest answers (asked_by who event answers before) x y → new ≡ history ++ entry_with who event answers ∷ []
    → EngineStands now new mark limit (files_told rescued y.shelf)
stands-more before now history new mark limit rescued x y who event answers s r came n asks honest k =
    let free : mark ≡ None = mark-none mark history limit who event r in
    let a = allowed history limit who event (refused-none mark history limit who event r) in
    let same : before ≡ run history = s.world free in
    let came_after : is_join event ≡ true → is_joined who (after_event who event answers before) ≡ true = (λ j. ap (is_joined who) (sym n) ∙ came j) in
    record {
      world = λ m. n ∙ ap (after_event who event answers) same ∙ sym (run-more history who event answers) ∙ ap run (sym k);
      known = λ m q. ap (is_joined q) n ∙ joined-after q who event answers before (s.known free q ∙ sym (s.here free q)) came_after ∙ ap (there_after (kind_of event) (who == q)) (s.known free q) ∙ behind q;
      here = λ m q. ap (λ f. is_among q f.clients) n ∙ here-after q who event answers before ∙ ap (there_after (kind_of event) (who == q)) (s.here free q) ∙ behind q;
      few = λ m. subst (λ f. length f.clients ≤ MAX_CLIENTS) (sym n) (few-after who event answers before (can-step before history mark limit (files_told rescued x.shelf) who event s r) (s.few free));
      kept = λ m. kept-on rescued same (s.kept free);
      legal = subst (IsLegal limit) (sym k) (record {
        lives = lives-more history limit who event answers s.legal.lives a;
        within = within-more history limit who event answers s.legal.within a;
        few = few-more history who event answers s.legal.few a.seat;
      });
      asked = subst AllAsked (sym k) (asked-more opening history (entry_with who event answers) s.asked (subst (AreAskedFor who event answers) same asks));
      marked = subst (λ (m : Option ℕ). IfSome m (λ at. at ≡ length new)) (sym free) tt;
    }
  where
    behind : (q : ℕ) → there_after (kind_of event) (who == q) (is_here (presence_from q Away history)) ≡ is_here (presence_from q Away new)
    behind q = sym (presence-after (kind_of event) (who == q) (presence_from q Away history)) ∙ ap is_here (sym (presence-more q who history event answers)) ∙ ap (λ h. is_here (presence_from q Away h)) (sym k)

    all : before ≡ run history → exchanges history ++ files_in (asked_by who event answers before) ≡ exchanges new
    all same =
        ap (λ f. exchanges history ++ files_in (asked_by who event answers f)) same
        ∙ sym (files_in-append (asked_in history) (asked_by who event answers (run history)))
        ∙ ap files_in (sym (asked_in-more opening history who event answers))
        ∙ ap exchanges (sym k)

    kept-on : (r : Bool) → before ≡ run history → IfSome (files_told r x.shelf) (IsKept (exchanges history)) → IfSome (files_told r y.shelf) (IsKept (exchanges new))
    kept-on true same was = tt
    kept-on false same was = subst (λ (e : List Exchange). IsKept e y.shelf) (all same) (kept-more answers (exchanges history) (asked_by who event answers before) x y was honest)

-- behind a going
gone-stands : (before now : Flat) (history new : List Entry) (mark : Option ℕ) (limit : ℕ) (rescued : Bool) (shelf : Shelf) (who : ℕ) → EngineStands before history mark limit (files_told rescued shelf) → refused_at mark history limit who Leave ≡ None
    → now ≡ after_event who Leave [] before → AreAskedFor who Leave [] before → asked_by who Leave [] before ≡ [] → new ≡ history ++ entry_of who Leave ∷ [] → EngineStands now new mark limit (files_told rescued shelf)
gone-stands before now history new mark limit rescued shelf who s r n asks none k =
    let o : Outside = record { shelf = shelf; refusals = 0; asked = [] } in
    stands-more before now history new mark limit rescued o o who Leave [] s r (λ j. let no : false ≡ true = j in cc) n asks (subst (λ (q : List Asked). IsHonest [] q o o) (sym none) (honest-none o)) k

pub left-stands : (before now : Flat) (history new : List Entry) (mark : Option ℕ) (limit : ℕ) (shelf : Option Shelf) (who : ℕ) (event : Event) → EngineStands before history mark limit shelf → refused_at mark history limit who event ≡ None
    → is_leave event ≡ true → now ≡ after_event who Leave [] before → AreAskedFor who Leave [] before → asked_by who Leave [] before ≡ [] → new ≡ history ++ entry_of who Leave ∷ [] → EngineStands now new mark limit shelf
left-stands before now history new mark limit (Some shelf) who Leave s r goes n asks none k = gone-stands before now history new mark limit false shelf who s r n asks none k
left-stands before now history new mark limit None who Leave s r goes n asks none k = gone-stands before now history new mark limit true (record { told = None; faults = 0 }) who s r n asks none k
left-stands before now history new mark limit shelf who Join s r goes n asks none k = cc
left-stands before now history new mark limit shelf who (Struck key) s r goes n asks none k = cc
left-stands before now history new mark limit shelf who (Resize size) s r goes n asks none k = cc
left-stands before now history new mark limit shelf who (Scroll lines) s r goes n asks none k = cc
left-stands before now history new mark limit shelf who (Pointed mouse) s r goes n asks none k = cc
left-stands before now history new mark limit shelf who (Refresh asked) s r goes n asks none k = cc

-- who leaves has joined
pub leaver-joined : (who : ℕ) (kind : Kind) (flat : Flat) → is_going kind ≡ true → CanRun kind who flat → is_joined who flat ≡ true
leaver-joined who Going flat goes can = can
leaver-joined who Coming flat goes can = cc
leaver-joined who Doing flat goes can = cc
leaver-joined who Drawing flat goes can = cc

-- an engine that broke
pub stands-broken : (flat now : Flat) (history new : List Entry) (mark : Option ℕ) (limit at : ℕ) (x y : Option Shelf) → EngineStands flat history mark limit x → new ≡ history → at ≡ length new → EngineStands now new (Some at) limit y
stands-broken flat now history new mark limit at x y s e count = record { world = λ m. cc; known = λ m. cc; here = λ m. cc; few = λ m. cc; kept = λ m. cc; legal = subst (IsLegal limit) (sym e) s.legal; asked = subst AllAsked (sym e) s.asked; marked = count }

-- a client that made an event, and didn't leave by it, is here behind the longer history
pub in-more : (history new : List Entry) (mark : Option ℕ) (limit who : ℕ) (event : Event) (answers : List Answered) → refused_at mark history limit who event ≡ None → new ≡ history ++ entry_with who event answers ∷ [] → is_leave event ≡ false → is_here (presence_from who Away new) ≡ true
in-more history new mark limit who event answers r = in-behind history new limit who event answers (refused-none mark history limit who event r)

-- an event that was cut short, on the world that the history led to
pub left-known : (flat new : Flat) (history : List Entry) (mark : Option ℕ) (limit : ℕ) (shelf : Option Shelf) (who : ℕ) (event : Event) (x y : Outside) → EngineStands flat history mark limit shelf → refused_at mark history limit who event ≡ None
    → IsStepLeft who event flat new x y → IsStepLeft who event (run history) new x y
left-known flat new history mark limit shelf who event x y s r cut = subst (λ f. IsStepLeft who event f new x y) (s.world (mark-none mark history limit who event r)) cut

-- where a history tells all that was exchanged with the files, it tells what they hold
pub kept-told : (rescued : Bool) (exchanges : List Exchange) (shelf : Shelf) → rescued ≡ false → IfSome (files_told rescued shelf) (IsKept exchanges) → IsKept exchanges shelf
kept-told true exchanges shelf e kept = cc
kept-told false exchanges shelf e kept = kept

-- an engine that isn't broken, and whose texts were rescued
pub stands-rescued : (flat : Flat) (history : List Entry) (mark : Option ℕ) (limit : ℕ) (shelf : Option Shelf) → EngineStands flat history mark limit shelf → EngineStands flat history mark limit None
stands-rescued flat history mark limit shelf s = record { world = s.world; known = s.known; here = s.here; few = s.few; kept = λ m. tt; legal = s.legal; asked = s.asked; marked = s.marked }

-- an event that can't fail where it is a going and no hook is held
pub parts-or-stays : (goes parts : Bool) → (goes ≡ true → parts ≡ false → false ≡ true) → (goes ≡ false) ⊎ (parts ≡ true)
parts-or-stays false parts fails = inl refl
parts-or-stays true true fails = inr refl
parts-or-stays true false fails = absurd (let never : false ≡ true = fails refl refl in cc)
