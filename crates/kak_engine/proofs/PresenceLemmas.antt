-- Who is there, and has joined, after an event.
use Rattle.std.proofs.Common.{◌≡◌, ◌≢◌, ℕ, ◌≤◌, Bool, true, false, ◌||◌, List, [], ◌∷◌, length, refl, sym, ap, ◌∙◌, subst, arith}
use Rattle.std.proofs.lemmas.List.{length-map}
use Rattle.std.specs.List.{list_any}
use Rattle.std.specs.Prelude.{if◌then◌else◌, ◌==◌}
use Rattle.std.proofs.lemmas.Bool.{eqb-true, ne_eqb}
use Rattle.kak_world.specs.declared.world.TheConstants.{MAX_CLIENTS}
use Rattle.kak_world.specs.declared.clients.Client.{Client}
use Rattle.kak_world.specs.Flat.{Flat, is_here as is_among, is_joined, left_by_client, joined_by}
use Rattle.kak_world.specs.Keeping.{whos_of}
use Rattle.kak_world.proofs.KeepingLaws.{here_come, count_come, joined_others_come, here_goes, here_others_go, count_goes, joined_goes, joined_others_go, here_joined}
use Rattle.session_events.specs.declared.event.Event.{Event}
use Rattle.session_events.specs.declared.event.Event.TheVariants.{Join, Key as Struck, Resize, Scroll, Mouse as Pointed, Refresh, Leave}
use Rattle.session_events.specs.declared.event.Answered.{Answered}
use Rattle.session_events.specs.declared.kind.Kind.{Kind}
use Rattle.session_events.specs.declared.kind.Kind.TheVariants.{Coming, Doing, Drawing, Going}
use Rattle.session_events.specs.Entries.{kind_of, is_join}
use Rattle.session_events.specs.Legal.{Presence, is_here, presence_after}
use Rattle.kak_engine.specs.Steps.{after_coming, after_event}
use Rattle.kak_engine.specs.Held.{CanRun}
use Rattle.kak_engine.specs.Laws.{KeepsPresence, StaysThere}
use Rattle.kak_engine.proofs.KeepingLaws.{keeps_key, keeps_resize, keeps_scroll, keeps_mouse, keeps_refresh, keeps_come, parted, going-leaves, keeps_parted}

-- whether a client is there behind an event of some kind, which is its own or not, by whether it was there
abbrev pub there_after : Kind → Bool → Bool → Bool
there_after Coming true before = true
there_after Going true before = false
there_after _ _ before = before

pub presence-after : (kind : Kind) (t : Bool) (p : Presence) → is_here (if t then presence_after kind p else p) ≡ there_after kind t (is_here p)
presence-after Coming true p = refl
presence-after Coming false p = refl
presence-after Doing true p = refl
presence-after Doing false p = refl
presence-after Drawing true p = refl
presence-after Drawing false p = refl
presence-after Going true p = refl
presence-after Going false p = refl

come : (b t : Bool) → (b || (t || false)) ≡ there_after Coming t b
come true true = refl
come true false = refl
come false true = refl
come false false = refl

-- the same clients are here where their numbers are the same, and as many
here-whos : (k : ℕ) (cs : List Client) → is_among k cs ≡ list_any (λ n. n == k) (whos_of cs)
here-whos k [] = refl
here-whos k (c ∷ cs) = ap (λ b. (c.who == k) || b) (here-whos k cs)

here-same : (k : ℕ) (old new : Flat) → KeepsPresence old new → is_among k new.clients ≡ is_among k old.clients
here-same k old new f = here-whos k new.clients ∙ ap (list_any (λ n. n == k)) f.whos ∙ sym (here-whos k old.clients)

count-same : (old new : Flat) → KeepsPresence old new → length new.clients ≡ length old.clients
count-same old new f = sym (length-map new.clients (λ c. c.who)) ∙ ap length f.whos ∙ length-map old.clients (λ c. c.who)

-- where those who are here have joined, they have joined still
joined-same : (k : ℕ) (old new : Flat) → KeepsPresence old new → is_joined k old ≡ is_among k old.clients → is_joined k new ≡ is_joined k old
joined-same k old new f e = by (is_joined k old) (is_joined k new) refl refl
  where
    by : (a b : Bool) → is_joined k old ≡ a → is_joined k new ≡ b → b ≡ a
    by true b was is = sym is ∙ f.joined k was
    by false false was is = refl
    by false true was is = let no : false ≡ true = sym was ∙ e ∙ sym (here-same k old new f) ∙ here_joined k new is in cc

-- who is there
pub here-after : (k who : ℕ) (event : Event) (answers : List Answered) (flat : Flat) → is_among k (after_event who event answers flat).clients ≡ there_after (kind_of event) (who == k) (is_among k flat.clients)
here-after k who Join answers flat = here-same k (joined_by who flat) _ (keeps_come who answers flat) ∙ here_come k who flat ∙ come (is_among k flat.clients) (who == k)
here-after k who (Struck key) answers flat = here-same k flat _ (keeps_key who key answers flat)
here-after k who (Resize size) answers flat = here-same k flat _ (keeps_resize who size flat)
here-after k who (Scroll lines) answers flat = here-same k flat _ (keeps_scroll who lines flat)
here-after k who (Pointed mouse) answers flat = here-same k flat _ (keeps_mouse who mouse flat)
here-after k who (Refresh asked) answers flat = here-same k flat _ (keeps_refresh who flat)
here-after k who Leave answers flat = ap (λ (f : Flat). is_among k f.clients) (going-leaves who answers flat) ∙ by (who == k) refl
  where
    before : Flat
    before = parted who answers flat

    by : (t : Bool) → (who == k) ≡ t → is_among k (left_by_client who before).clients ≡ there_after Going t (is_among k flat.clients)
    by true e = subst (λ n. is_among n (left_by_client who before).clients ≡ false) (eqb-true who k e) (here_goes who before)
    by false e = here_others_go k who before e ∙ here-same k flat before (keeps_parted who answers flat)

-- who has joined, where one that came has, and those who are here have
pub joined-after : (k who : ℕ) (event : Event) (answers : List Answered) (flat : Flat) → is_joined k flat ≡ is_among k flat.clients → (is_join event ≡ true → is_joined who (after_event who event answers flat) ≡ true)
    → is_joined k (after_event who event answers flat) ≡ there_after (kind_of event) (who == k) (is_joined k flat)
joined-after k who Join answers flat same came = by (who == k) refl
  where
    -- one that didn't come is joined, and here, as before
    known : (who == k) ≡ false → is_joined k (joined_by who flat) ≡ is_among k (joined_by who flat).clients
    known e = joined_others_come k who flat e ∙ same ∙ sym (here_come k who flat ∙ come (is_among k flat.clients) (who == k) ∙ ap (λ t. there_after Coming t (is_among k flat.clients)) e)

    by : (t : Bool) → (who == k) ≡ t → is_joined k (after_coming who answers flat) ≡ there_after Coming t (is_joined k flat)
    by true e = subst (λ n. is_joined n (after_coming who answers flat) ≡ true) (eqb-true who k e) (came refl)
    by false e = joined-same k (joined_by who flat) _ (keeps_come who answers flat) (known e) ∙ joined_others_come k who flat e
joined-after k who (Struck key) answers flat same came = joined-same k flat _ (keeps_key who key answers flat) same
joined-after k who (Resize size) answers flat same came = joined-same k flat _ (keeps_resize who size flat) same
joined-after k who (Scroll lines) answers flat same came = joined-same k flat _ (keeps_scroll who lines flat) same
joined-after k who (Pointed mouse) answers flat same came = joined-same k flat _ (keeps_mouse who mouse flat) same
joined-after k who (Refresh asked) answers flat same came = joined-same k flat _ (keeps_refresh who flat) same
joined-after k who Leave answers flat same came = ap (is_joined k) (going-leaves who answers flat) ∙ by (who == k) refl
  where
    before : Flat
    before = parted who answers flat

    by : (t : Bool) → (who == k) ≡ t → is_joined k (left_by_client who before) ≡ there_after Going t (is_joined k flat)
    by true e = subst (λ n. is_joined n (left_by_client who before) ≡ false) (eqb-true who k e) (joined_goes who before)
    by false e = joined_others_go k who before e ∙ joined-same k flat before (keeps_parted who answers flat) same

-- how many are there
pub few-after : (who : ℕ) (event : Event) (answers : List Answered) (flat : Flat) → CanRun (kind_of event) who flat → length flat.clients ≤ MAX_CLIENTS → length (after_event who event answers flat).clients ≤ MAX_CLIENTS
few-after who Join answers flat can few = omega (arith, count-same (joined_by who flat) _ (keeps_come who answers flat), count_come who flat, can.few)
few-after who (Struck key) answers flat can few = omega (arith, count-same flat _ (keeps_key who key answers flat), few)
few-after who (Resize size) answers flat can few = omega (arith, count-same flat _ (keeps_resize who size flat), few)
few-after who (Scroll lines) answers flat can few = omega (arith, count-same flat _ (keeps_scroll who lines flat), few)
few-after who (Pointed mouse) answers flat can few = omega (arith, count-same flat _ (keeps_mouse who mouse flat), few)
few-after who (Refresh asked) answers flat can few = omega (arith, count-same flat _ (keeps_refresh who flat), few)
few-after who Leave answers flat can few =
    let before : Flat = parted who answers flat in
    let keeps : KeepsPresence flat before = keeps_parted who answers flat in
    omega (arith, ap (λ (f : Flat). length f.clients) (going-leaves who answers flat), count_goes who before (here_joined who before (keeps.joined who can)), count-same flat before keeps, few)

-- the others stay
pub others_stay : (who k : ℕ) (event : Event) (answers : List Answered) (flat : Flat) → who ≢ k → StaysThere k flat (after_event who event answers flat)
others_stay who k event answers flat other = record {
  here = here-after k who event answers flat ∙ apart (kind_of event) (is_among k flat.clients);
  joined = stays event;
}
  where
    apart : (kind : Kind) (b : Bool) → there_after kind (who == k) b ≡ b
    apart Coming b = rw (ne_eqb who k other) refl
    apart Doing b = refl
    apart Drawing b = refl
    apart Going b = rw (ne_eqb who k other) refl

    stays : (e : Event) → is_joined k flat ≡ true → is_joined k (after_event who e answers flat) ≡ true
    stays Join j = (keeps_come who answers flat).joined k (joined_others_come k who flat (ne_eqb who k other) ∙ j)
    stays (Struck key) j = (keeps_key who key answers flat).joined k j
    stays (Resize size) j = (keeps_resize who size flat).joined k j
    stays (Scroll lines) j = (keeps_scroll who lines flat).joined k j
    stays (Pointed mouse) j = (keeps_mouse who mouse flat).joined k j
    stays (Refresh asked) j = (keeps_refresh who flat).joined k j
    stays Leave j = ap (is_joined k) (going-leaves who answers flat) ∙ joined_others_go k who (parted who answers flat) (ne_eqb who k other) ∙ (keeps_parted who answers flat).joined k j
