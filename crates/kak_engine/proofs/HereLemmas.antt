-- The clients that are here, as a world has them: as many as the entries that led to it say.
use Rattle.std.proofs.Common.{◌≡◌, ℕ, ◌+◌, ◌<◌, ◌≤◌, Bool, true, false, List, [], ◌∷◌, ◌++◌, length, refl, sym, ap, ◌∙◌, arith}
use Rattle.std.specs.Prelude.{if◌then◌else◌, not, ◌==◌, filter}
use Rattle.std.proofs.lemmas.List.{map-append, length-map}
use Rattle.session_events.specs.declared.event.Event.{Event}
use Rattle.session_events.specs.declared.event.Event.TheVariants.{Join, Key as Struck, Resize, Scroll, Mouse as Pointed, Refresh, Leave}
use Rattle.session_events.specs.declared.event.Answered.{Answered}
use Rattle.session_events.specs.declared.event.Entry.{Entry}
use Rattle.session_events.specs.Entries.{kind_of, is_join, entry_with}
use Rattle.session_events.specs.Counting.{here_after, here_from, here_among, AreNeverMore, most_here}
use Rattle.session_events.proofs.CountingLemmas.{here-few, never-more, few-behind}
use Rattle.kak_world.specs.declared.clients.Client.{Client}
use Rattle.kak_world.specs.declared.world.TheConstants.{MAX_CLIENTS}
use Rattle.kak_world.specs.Flat.{Flat, opening, is_of, joined_by, left_by_client}
use Rattle.kak_world.specs.Keeping.{whos_of}
use Rattle.kak_engine.specs.Steps.{after_entry, after_event, run_from, run}
use Rattle.kak_engine.proofs.KeepingLaws.{keeps_key, keeps_resize, keeps_scroll, keeps_mouse, keeps_refresh, keeps_come, parted, going-leaves, keeps_parted}

whos-come : (who : ℕ) (flat : Flat) → whos_of (joined_by who flat).clients ≡ whos_of flat.clients ++ who ∷ []
unfolding joined_by
whos-come who flat = map-append (λ (c : Client). c.who) flat.clients _

whos-left : (who : ℕ) (clients : List Client) → whos_of (filter (λ c. not (is_of who c)) clients) ≡ filter (λ number. not (number == who)) (whos_of clients)
whos-left who [] = refl
whos-left who (c ∷ clients) = by (c.who == who) (whos-left who clients)
  where
    by : (t : Bool) → whos_of (filter (λ c. not (is_of who c)) clients) ≡ filter (λ number. not (number == who)) (whos_of clients)
        → whos_of (if not t then c ∷ filter (λ c. not (is_of who c)) clients else filter (λ c. not (is_of who c)) clients) ≡ (if not t then c.who ∷ filter (λ number. not (number == who)) (whos_of clients) else filter (λ number. not (number == who)) (whos_of clients))
    by true e = e
    by false e = ap (λ (numbers : List ℕ). c.who ∷ numbers) e

whos-go : (who : ℕ) (flat : Flat) → whos_of (left_by_client who flat).clients ≡ filter (λ number. not (number == who)) (whos_of flat.clients)
unfolding left_by_client
whos-go who flat = whos-left who flat.clients

whos-after : (who : ℕ) (event : Event) (answers : List Answered) (flat : Flat) → whos_of (after_event who event answers flat).clients ≡ here_after who (kind_of event) (whos_of flat.clients)
whos-after who Join answers flat = (keeps_come who answers flat).whos ∙ whos-come who flat
whos-after who (Struck key) answers flat = (keeps_key who key answers flat).whos
whos-after who (Resize size) answers flat = (keeps_resize who size flat).whos
whos-after who (Scroll lines) answers flat = (keeps_scroll who lines flat).whos
whos-after who (Pointed mouse) answers flat = (keeps_mouse who mouse flat).whos
whos-after who (Refresh asked) answers flat = (keeps_refresh who flat).whos
whos-after who Leave answers flat =
    ap (λ (f : Flat). whos_of f.clients) (going-leaves who answers flat)
    ∙ whos-go who (parted who answers flat)
    ∙ ap (λ (numbers : List ℕ). filter (λ number. not (number == who)) numbers) (keeps_parted who answers flat).whos

whos-run : (flat : Flat) (history : List Entry) → whos_of (run_from flat history).clients ≡ here_from (whos_of flat.clients) history
whos-run flat [] = refl
whos-run flat (e ∷ history) = whos-run (after_entry e flat) history ∙ ap (λ (here : List ℕ). here_from here history) (whos-after e.who e.event e.answers flat)

-- as many clients are in the world as are here
pub here-count : (history : List Entry) → length (here_among history) ≡ length (run history).clients
here-count history = sym (ap length (whos-run opening history)) ∙ length-map (run history).clients (λ (c : Client). c.who)

-- one entry more leaves no more clients here than may be, where who comes finds room
pub few-more : (history : List Entry) (who : ℕ) (event : Event) (answers : List Answered) → AreNeverMore most_here [] history → (is_join event ≡ true → length (run history).clients < MAX_CLIENTS) → AreNeverMore most_here [] (history ++ entry_with who event answers ∷ [])
few-more history who event answers few seat =
    never-more most_here [] history (entry_with who event answers) few (here-few who (kind_of event) (here_among history) most_here (few-behind most_here [] history few) (λ j. less (here-count history) (seat j)))
  where
    less : {a b : ℕ} → a ≡ b → b < MAX_CLIENTS → a + 1 ≤ most_here
    less e l = omega (arith, e, l)
