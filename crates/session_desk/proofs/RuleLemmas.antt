-- Each kind of atomic step keeps the rule.
use Rattle.std.proofs.Common.{◌≡◌, ◌≢◌, ℕ, zero, suc, ◌<◌, eqb, true, false, List, [], ◌∷◌, length, get_or, set, All, sym, refl, ap, ◌∙◌, subst, inl, inr, ⊎_elim, arith, Option, Some, None, length-set, append-nil, eq-eqb, ne_eqb}
use Rattle.std.proofs.lemmas.Bool.{false≢true}
use Rattle.std.proofs.lemmas.List.Elements.{All-nil, All-push}
use mathlib.Core.Logic.{dite}
use mathlib.Core.Option.{none, some, some-injective, some-ne-none}
use mathlib.Core.Option as maybe
use native.Mathlib.Decide.{ℕ_discrete}
use lib.ListN.{get_elem?}
use lib.Seq.{set-get_or}
use prog.Atomic.{either}
use Rattle.atomic_table.specs.Table.{State, step, keeps, takes, gives, stepped, rest, Allows, opening}
use Rattle.atomic_table.proofs.Lists.{set_here, set_again}
use Rattle.session_desk.specs.declared.rule.Role.TheVariants.{Admits, Plays}
use Rattle.session_desk.specs.declared.rule.View.{View}
use Rattle.session_desk.specs.Histories.{AddsOne, Met, MaySetMark, HasMet}
use Rattle.session_desk.specs.Rule.{is_live, pass_count, length_word, Facts, Knows, SameOwn, Returned, SeatFits, AtHome, IsRuleKept, opening_view, seeing, Sat, Found, MayBecome, IsInHand, takes_turn, publishes, frees_turn, looks, tells}
use Rattle.session_desk.proofs.HistoryLemmas.{starts_itself, starts_through, starts_same, marks_later}
use Rattle.session_desk.proofs.SeatLemmas.{within, only_one, hand_or, passes_set, seats_stay, held_stays, keeper_alone, same_own_itself, returned_seen, has_given, turn_changes, met_later, Grows, grows, returned_later, others_later}

module _ {O E F : Type 0} (entries : O → List E) (maker : E → ℕ) (marked : O → Option ℕ) (frame_of : O → F) (frame : F) where
  abbrev St : Type 0
  St = State (Option O) (View E F)

  abbrev M : Type 0
  M = Sat O E F

  abbrev Rule : St → Type 0
  Rule = IsRuleKept entries maker marked frame_of frame

  abbrev opening_facts : Facts E
  opening_facts = record { history = []; mark = None; turn = 0; holder = 0; made = 0; out = 0; seat_of = λ _. 0 }

  opening_seat : (j : ℕ) (v : View E F) → get_elem? (opening_view frame ∷ []) j ≡ some v → SeatFits maker frame opening_facts j v
  opening_seat zero v e = subst (SeatFits maker frame opening_facts 0) (some-injective (opening_view frame) v e) record {
    begins = ([], refl);
    framed = λ _. refl;
    met = inl refl;
    live = λ h. absurd (false≢true h);
    holding = λ h. absurd (false≢true h);
    knows = (refl, refl, refl);
    same_own = tt;
    balance = refl;
    differ = λ i j g _ l. absurd (omega arith);
    returned = All-nil (Returned maker [] 0 (λ _. 0) []);
    marks = All-nil (HasMet None);
    earlier = ([], refl);
  }
  opening_seat (suc j) v e = absurd (some-ne-none v (sym e))

  -- a new table
  pub opens : (o : O) → entries o ≡ [] → marked o ≡ None → frame_of o ≡ frame → Rule (opening (0 ∷ 0 ∷ []) (Some o ∷ []) (opening_view frame))
  opens o empty unmarked same = record {
    facts = opening_facts;
    words = refl;
    one_slot = refl;
    free_or_held = omega arith;
    at_home = λ _. record { object = o; home = refl; entries_are = empty; mark_is = unmarked; frame_is = same };
    held = λ z. absurd (omega arith);
    numbers = All-nil (λ e. maker e < 0);
    counted = refl;
    each_seat = opening_seat;
  }

  unmoved : (s : St) (i id : ℕ) (v : View E F) → Rule s → get_elem? s.views id ≡ some v → Rule record { words = set s.words i (get_or s.words i 0); homes = s.homes; views = set s.views id v }
  unmoved s i id v r at = subst (λ (p : List ℕ × List (View E F)). Rule record { words = p.0; homes = s.homes; views = p.1 }) (λ t. (sym (set-get_or s.words i 0) t, sym (set_again s.views id v at) t)) r

  -- a load of the turn by the keeper
  pub tells_kept : (slots id : ℕ) (me : M) → Allows Rule slots id me 0 (λ n. n) (tells maker (step slots 0 0 0 none) me)
  tells_kept slots id me s r _ at _ = let d = r.facts in let mine = r.each_seat id me.0 at in (
    me.0,
    keeps,
    tt,
    unmoved s 0 id me.0 r at,
    (refl, record { balance = mine.balance; differ = mine.differ; given = has_given maker d.history me.0.seen d.made d.seat_of me.0.seen mine.begins (starts_itself me.0.seen) me.0.given mine.returned; marks = mine.marks; earlier = mine.earlier }),
  )

  -- the turn was free
  takes_free : (s : St) (r : Rule s) (id : ℕ) (me : M) (home : AtHome entries marked frame_of frame r.facts s.homes) → r.facts.turn ≡ 0 → get_elem? s.views id ≡ some me.0 → is_live me.0.role ≡ true
      → Rule record { words = set s.words 0 1; homes = set s.homes 0 none; views = set s.views id (seeing true (entries home.object) (marked home.object) me.0) }
  takes_free s r id me home free at live = let d = r.facts in let mine = r.each_seat id me.0 at in let x = home.object in
      let w : View E F = seeing true (entries x) (marked x) me.0 in
      let d' : Facts E = record { history = d.history; mark = d.mark; turn = 1; holder = id; made = d.made; out = d.out; seat_of = d.seat_of } in
      let count = passes_set s.views id me.0 w at in
      record {
        facts = d';
        words = ap (λ (ws : List ℕ). set ws 0 1) r.words;
        one_slot = length-set s.homes 0 none ∙ r.one_slot;
        free_or_held = omega arith;
        at_home = λ z. absurd (omega arith);
        held = λ _. record { view = w; there = set_here s.views id w (within s.views id me.0 at); holds = refl };
        numbers = r.numbers;
        counted = let same : pass_count (set s.views id w) ≡ pass_count s.views = omega arith in same ∙ r.counted;
        each_seat = seats_stay (SeatFits maker frame d') s.views id w record {
          begins = ([], sym home.entries_are ∙ sym (append-nil (entries x)));
          framed = mine.framed;
          met = inr home.mark_is;
          live = λ _. live;
          holding = λ _. record { turn = refl; holder = refl; history = sym home.entries_are; mark = sym home.mark_is };
          knows = mine.knows;
          same_own = same_own_itself maker me.0.role d.history (entries x) (sym home.entries_are);
          balance = mine.balance;
          differ = mine.differ;
          returned = returned_seen maker d.history d.made d.seat_of me.0.seen (entries x) (starts_same (entries x) d.history me.0.seen home.entries_are mine.begins) me.0.given mine.returned;
          marks = marks_later me.0.mark (marked x) me.0.given (subst (Met me.0.mark) (sym home.mark_is) mine.met) mine.marks;
          earlier = starts_through (entries x) me.0.seen me.0.earlier (starts_same (entries x) d.history me.0.seen home.entries_are mine.begins) mine.earlier;
        } (λ j v other there. turn_changes maker frame d 1 id j v (λ h. let held = (r.each_seat j v there).holding h in let t = held.turn in absurd (omega arith)) (r.each_seat j v there));
      }

  found_at : (s : St) (r : Rule s) (id : ℕ) (v : View E F) (home : AtHome entries marked frame_of frame r.facts s.homes) → get_elem? s.views id ≡ some v → is_live v.role ≡ true
      → Found entries maker marked frame_of v home.object
  found_at s r id v home at live = let d = r.facts in let mine = r.each_seat id v at in let x = home.object in let begins = starts_same (entries x) d.history v.seen home.entries_are mine.begins in record {
    begins = begins;
    met = subst (Met v.mark) (sym home.mark_is) mine.met;
    framed = mine.framed live ∙ ap (λ (f : F). Some f) (sym home.frame_is);
    same_own = subst (λ (h : List E). SameOwn maker v.role h v.seen) (sym home.entries_are) mine.same_own;
    given = has_given maker d.history (entries x) d.made d.seat_of v.seen ([], sym home.entries_are ∙ sym (append-nil (entries x))) begins v.given mine.returned;
    marks = marks_later v.mark (marked x) v.given (subst (Met v.mark) (sym home.mark_is) mine.met) mine.marks;
    numbers = λ made out is. let knows : Knows d.made d.out d.seat_of id (Admits made out) = subst (Knows d.made d.out d.seat_of id) is mine.knows in
        subst (λ (p : ℕ × List E). All (λ e. maker e < p.0) p.1) (λ i. (sym knows.0 i, sym home.entries_are i)) r.numbers;
  }

  -- with no pass out, the keeper finds the turn free
  free_for_keeper : (s : St) (r : Rule s) (id : ℕ) (v : View E F) (made : ℕ) → get_elem? s.views id ≡ some v → v.role ≡ Admits made 0 → v.holds ≡ false → r.facts.turn ≡ 0
  free_for_keeper s r id v made at is idle = let d = r.facts in let mine = r.each_seat id v at in let low = r.free_or_held in
      let knows : Knows d.made d.out d.seat_of id (Admits made 0) = subst (Knows d.made d.out d.seat_of id) is mine.knows in
      dite (ℕ_discrete d.turn 0) (λ free. free)
      (λ other. let one : d.turn ≡ 1 = omega arith in absurd (keeper_alone maker frame d s.views id v (r.counted ∙ sym knows.1) at knows.2 idle r.each_seat (r.held one)))

  -- an exchange of the turn, free to held
  pub takes_kept : (slots id : ℕ) (me : M) → is_live me.0.role ≡ true → me.0.holds ≡ false → me.1 ≡ []
      → Allows Rule slots id me 0 (λ n. either (eqb n 0) 1 n) (takes_turn entries maker marked frame_of (step slots 0 0 1 none) me)
  takes_kept slots id me live idle bare s r _ at _ = let x : ℕ = get_or s.words 0 0 in let turn_is : x ≡ r.facts.turn = ap (λ (ws : List ℕ). get_or ws 0 0) r.words in
      dite (ℕ_discrete x 0)
      (λ hit. let home = r.at_home (sym turn_is ∙ hit) in let o = home.object in let w : View E F = seeing true (entries o) (marked o) me.0 in (
        w,
        takes 0 (Some o),
        ap (λ (hs : List (maybe.Option (Option O))). get_elem? hs 0) home.home,
        subst (λ b. Rule (stepped s 0 (either b 1 x) id me.1 w (takes 0 (Some o)))) (sym (eq-eqb x 0 hit)) (takes_free s r id me home (sym turn_is ∙ hit) at live),
        (
          (λ _. record { object = o; slot = ap (λ (cs : List (ℕ × Option O)). (0, Some o) ∷ cs) bare; view = refl; found = found_at s r id me.0 home at live }),
          (λ ne. absurd (ne hit)),
          λ made is. hit,
        ),
      ))
      (λ miss. (
        me.0,
        keeps,
        tt,
        subst (λ b. Rule (stepped s 0 (either b 1 x) id me.1 me.0 keeps)) (sym (ne_eqb x 0 miss)) (unmoved s 0 id me.0 r at),
        ((λ hit. absurd (miss hit)), (λ _. refl), λ made is. turn_is ∙ free_for_keeper s r id me.0 made at is idle),
      ))

  -- another seat than the holder's does not hold the turn
  others_free : (s : St) (r : Rule s) (id : ℕ) (v : View E F) → get_elem? s.views id ≡ some v → v.holds ≡ true → (j : ℕ) (x : View E F) → j ≢ id → get_elem? s.views j ≡ some x → x.holds ≡ true → ⊥
  others_free s r id v at holds j x other there also =
      let mine = (r.each_seat id v at).holding holds in let theirs = (r.each_seat j x there).holding also in other (theirs.holder ∙ sym mine.holder)

  -- a store of the turn, held to free
  pub frees_kept : (slots id : ℕ) (me : M) (o : O) → IsInHand entries marked frame_of me.0 o → me.1 ≡ (0, Some o) ∷ []
      → Allows Rule slots id me 0 (λ _. 0) (λ _. frees_turn entries maker marked frame_of (step slots 0 0 0 none) me 0)
  frees_kept slots id me o hand slot s r _ at _ = let d = r.facts in let mine = r.each_seat id me.0 at in let turn = mine.holding hand.holds in
      let w : View E F = seeing false me.0.seen me.0.mark me.0 in let count = passes_set s.views id me.0 w at in
      let d' : Facts E = record { history = d.history; mark = d.mark; turn = 0; holder = d.holder; made = d.made; out = d.out; seat_of = d.seat_of } in
      let framed : Some (frame_of o) ≡ Some frame = sym hand.framed ∙ mine.framed (mine.live hand.holds) in (
        w,
        gives,
        tt,
        subst (λ (cs : List (ℕ × Option O)). Rule (stepped s 0 0 id cs w gives)) (sym slot) record {
          facts = d';
          words = ap (λ (ws : List ℕ). set ws 0 0) r.words;
          one_slot = length-set s.homes 0 (some (Some o)) ∙ r.one_slot;
          free_or_held = omega arith;
          at_home = λ _. record { object = o; home = only_one s.homes (some (Some o)) r.one_slot; entries_are = hand.entries_are ∙ sym turn.history; mark_is = hand.mark_is ∙ sym turn.mark; frame_is = cc };
          held = λ z. absurd (omega arith);
          numbers = r.numbers;
          counted = let same : pass_count (set s.views id w) ≡ pass_count s.views = omega arith in same ∙ r.counted;
          each_seat = seats_stay (SeatFits maker frame d') s.views id w (turn_changes maker frame d 0 d.holder id w (λ h. absurd (false≢true h)) record {
            begins = mine.begins;
            framed = mine.framed;
            met = mine.met;
            live = λ h. absurd (false≢true h);
            holding = λ h. absurd (false≢true h);
            knows = mine.knows;
            same_own = mine.same_own;
            balance = mine.balance;
            differ = mine.differ;
            returned = mine.returned;
            marks = mine.marks;
            earlier = mine.earlier;
          }) (λ j v other there. turn_changes maker frame d 0 d.holder j v (λ h. absurd (others_free s r id me.0 at hand.holds j v other there h)) (r.each_seat j v there));
        },
        ap (λ (cs : List (ℕ × Option O)). (w, rest cs)) slot,
      )

  -- a number below a count, wherever one entry of such a number was added
  numbers_later : (made n : ℕ) (h h' : List E) (m m' : Option ℕ) → n < made → MayBecome maker n h m h' m' → All (λ e. maker e < made) h → All (λ e. maker e < made) h'
  numbers_later made n h h' m m' low may all = ⊎_elim
      (λ (t : AddsOne maker n h h' × (m ≡ None) × (m' ≡ None)). subst (λ (l : List E). All (λ e. maker e < made) l) (sym t.0.after_is)
      (All-push (λ e. maker e < made) h t.0.entry all (let is = t.0.maker_is in omega arith)))
      (λ (t : (h' ≡ h) × MaySetMark h m m'). subst (λ (l : List E). All (λ e. maker e < made) l) (sym t.0) all) may

  -- a store of the length and the mark
  pub publishes_kept : (slots id n : ℕ) (me : M) (o : O) (word : ℕ) → me.0.role ≡ Plays n → me.0.holds ≡ true → me.1 ≡ (0, Some o) ∷ []
      → MayBecome maker n me.0.seen me.0.mark (entries o) (marked o) → word ≡ length_word (length (entries o)) (marked o)
      → Allows Rule slots id me 1 (λ _. word) (λ _. publishes entries maker marked frame_of (step slots 1 word 0 none) me word)
  publishes_kept slots id n me o word is holds slot may word_is s r _ at _ = let d = r.facts in let mine = r.each_seat id me.0 at in let turn = mine.holding holds in let one = turn.turn in
      let knows : Knows d.made d.out d.seat_of id (Plays n) = subst (Knows d.made d.out d.seat_of id) is mine.knows in
      let w : View E F = seeing true (entries o) (marked o) me.0 in let count = passes_set s.views id me.0 w at in
      let d' : Facts E = record { history = entries o; mark = marked o; turn = d.turn; holder = d.holder; made = d.made; out = d.out; seat_of = d.seat_of } in
      let may' : MayBecome maker n d.history d.mark (entries o) (marked o) = subst (λ (p : List E × Option ℕ). MayBecome maker n p.0 p.1 (entries o) (marked o)) (λ i. (sym turn.history i, sym turn.mark i)) may in
      let more : Grows maker n d.history (entries o) d.mark (marked o) = grows maker n d.history (entries o) d.mark (marked o) may' in (
        w,
        keeps,
        tt,
        record {
          facts = d';
          words = ap (λ (ws : List ℕ). set ws 1 word) r.words ∙ (λ i. d.turn ∷ word_is i ∷ []);
          one_slot = r.one_slot;
          free_or_held = r.free_or_held;
          at_home = λ z. let free : d.turn ≡ 0 = z in absurd (omega arith);
          held = λ _. record { view = w; there = subst (λ (h : ℕ). get_elem? (set s.views id w) h ≡ some w) turn.holder (set_here s.views id w (within s.views id me.0 at)); holds = refl };
          numbers = numbers_later d.made n d.history (entries o) d.mark (marked o) knows.0 may' r.numbers;
          counted = let same : pass_count (set s.views id w) ≡ pass_count s.views = omega arith in same ∙ r.counted;
          each_seat = seats_stay (SeatFits maker frame d') s.views id w record {
            begins = starts_itself (entries o);
            framed = mine.framed;
            met = inr refl;
            live = λ _. mine.live holds;
            holding = λ _. record { turn = one; holder = turn.holder; history = refl; mark = refl };
            knows = mine.knows;
            same_own = same_own_itself maker me.0.role (entries o) (entries o) refl;
            balance = mine.balance;
            differ = mine.differ;
            returned = returned_seen maker (entries o) d.made d.seat_of me.0.seen (entries o) (starts_through (entries o) d.history me.0.seen more.begins mine.begins) me.0.given
                (returned_later maker n id d.history (entries o) d.mark (marked o) d.made d.seat_of me.0.seen more knows.1 knows.2 me.0.given mine.returned);
            marks = marks_later me.0.mark (marked o) me.0.given (met_later me.0.mark d.mark (marked o) (inr (sym turn.mark)) more.mark) mine.marks;
            earlier = starts_through (entries o) me.0.seen me.0.earlier (starts_through (entries o) d.history me.0.seen more.begins mine.begins) mine.earlier;
          } (λ j v other there. others_later maker frame d (entries o) (marked o) n id j v more knows.1 knows.2 other (others_free s r id me.0 at holds j v other there) (r.each_seat j v there));
        },
        (λ x e. ap (λ (z : O). let y : M = (seeing true (entries z) (marked z) me.0, me.1) in y) (ap (hand_or o) (sym slot ∙ e))),
      )

  -- a load of the length and the mark
  pub looks_kept : (slots id : ℕ) (me : M) → me.0.holds ≡ false → Allows Rule slots id me 1 (λ n. n) (looks maker (step slots 1 0 0 none) me)
  looks_kept slots id me idle s r _ at _ = let d = r.facts in let mine = r.each_seat id me.0 at in let w : View E F = seeing false d.history d.mark me.0 in let count = passes_set s.views id me.0 w at in (
    w,
    keeps,
    tt,
    subst (λ (ws : List ℕ). Rule record { words = ws; homes = s.homes; views = set s.views id w }) (sym (set-get_or s.words 1 0)) record {
      facts = d;
      words = r.words;
      one_slot = r.one_slot;
      free_or_held = r.free_or_held;
      at_home = r.at_home;
      held = λ z. held_stays s.views d.holder id me.0 w (r.held z) at idle;
      numbers = r.numbers;
      counted = let same : pass_count (set s.views id w) ≡ pass_count s.views = omega arith in same ∙ r.counted;
      each_seat = seats_stay (SeatFits maker frame d) s.views id w record {
        begins = starts_itself d.history;
        framed = mine.framed;
        met = inr refl;
        live = λ h. absurd (false≢true h);
        holding = λ h. absurd (false≢true h);
        knows = mine.knows;
        same_own = same_own_itself maker me.0.role d.history d.history refl;
        balance = mine.balance;
        differ = mine.differ;
        returned = returned_seen maker d.history d.made d.seat_of me.0.seen d.history mine.begins me.0.given mine.returned;
        marks = marks_later me.0.mark d.mark me.0.given mine.met mine.marks;
        earlier = starts_through d.history me.0.seen me.0.earlier mine.begins mine.earlier;
      } (λ j v other there. r.each_seat j v there);
    },
    (record { view = refl; word = ap (λ (ws : List ℕ). get_or ws 1 0) r.words; begins = mine.begins; met = mine.met; same_own = mine.same_own }, refl),
  )
