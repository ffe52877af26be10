-- How clients leave at the end of a replay, and what stands for each then.
use Rattle.std.proofs.Common.{◌≡◌, ◌≢◌, ℕ, ◌+◌, ◌<◌, ◌≤◌, ◌==◌, ◌⊎◌, inl, inr, Bool, true, false, List, [], ◌∷◌, ◌++◌, length, refl, sym, ap, ◌∙◌, subst, arith}
use Rattle.std.specs.Prelude.{if◌then◌else◌, get_or, Some}
use Rattle.std.proofs.lemmas.Bool.{cases_lt, eqb-true, eqb-false, eq-eqb, ne_eqb}
use Rattle.ui_board.specs.declared.ui.Kind.{Kind}
use Rattle.ui_board.specs.declared.ui.Kind.TheVariants.{Json, Silent, Screen}
use Rattle.ui_board.specs.Told.{Shown, json_lines, screen_text, report_of}
use Rattle.ui_board.proofs.ToldLemmas.{none-told}
use Rattle.session_turns.specs.Histories.{own}
use Rattle.session_turns.specs.Turns.{turns_of}
use Rattle.session_turns.specs.Growth.{How, Whole, Over, Short, Unsent, Lost}
use Rattle.session_turns.specs.Headline.{End, Left, Closed, Refused, Stands as StandsFor}
use Rattle.session_events.specs.declared.event.Entry.{Entry}
use Rattle.session_events.specs.Legal.{Away, is_here, presence_from}
use Rattle.session_events.specs.Meaning.{rules}
use Rattle.session_events.proofs.LegalLemmas.{presence-append}
use Rattle.session_lines.specs.Session.{protocol}
use Rattle.session_replay.specs.Settings.{Setting}
use Rattle.session_replay.specs.declared.places.ClientPlace.{ClientPlace}
use Rattle.session_replay.specs.declared.places.ClientPlace.TheVariants as place
use Rattle.session_replay.specs.Written.{Of, written, lines_for}
use Rattle.session_replay.specs.Clients.{GotTo, ClientStands, HeldClient, Keeps, IsClient, IsMoment, GrowsBy, moment}
use Rattle.session_replay.specs.Replays.{StandsAt}
use Rattle.session_replay.specs.Partings.{ends_as, how_at, StandsLast, IsParting, AreParting}
use Rattle.session_replay.proofs.ClientLemmas.{own-others, presence-others, got-others, left-others, still-strange, lines-others}
use Rattle.session_replay.proofs.EndingLemmas.{left-closed, left-left, left-refused, never-refused}
use Rattle.session_replay.specs.Phases.{hows_at, IsEnding}

-- a client of a moment may part
stands-parting : (g : Setting) (p : ClientPlace) (k : ℕ) (h : List Entry) (lines : List (List ℕ)) (told : List ℕ) → ClientStands g p k h lines told → StandsLast g (how_at p) p k h lines told
stands-parting g place.Away k h lines told s = (s.0, s.2, inl s.1)
stands-parting g place.Here k h lines told s = s
stands-parting g place.Gone k h lines told s = s

pub client-parting : (g : Setting) (kind : Kind) (k : ℕ) (h : List Entry) (lines : List (List ℕ)) (held : HeldClient) → IsClient g kind k h lines held → IsParting g kind (how_at held.place) k h lines held
client-parting g kind k h lines held c = record {
  shown = c.shown;
  kind_is = c.kind_is;
  keeps = c.keeps;
  stands = stands-parting g held.place k h lines (json_lines c.shown.told) c.stands;
}

-- behind the last line nobody has parted yet
pub parting-begins : (g : Setting) (kinds : List Kind) (lines : List (List ℕ)) (h : List Entry) (held : ℕ → HeldClient) → IsMoment g kinds lines (moment h held) → AreParting g kinds (λ who. how_at (held who).place) 0 lines (moment h held)
parting-begins g kinds lines h held m = record {
  clients = λ who inside. client-parting g (get_or kinds who Silent) who h (lines_for (length kinds) who lines) (held who) (m.clients who inside);
  parted = λ who below. absurd (omega (arith, below));
  strangers = m.strangers;
}

-- entries of others leave a client where it stands
pub last-others : (g : Setting) (how : How) (p : ClientPlace) (k : ℕ) (h more : List Entry) (lines : List (List ℕ)) (told : List ℕ) → own (rules g.gives) k more ≡ [] → StandsLast g how p k h lines told → StandsLast g how p k (h ++ more) lines told
last-others g how place.Away k h more lines told e s = (own-others g k h more e ∙ s.0, s.1, coming s.2)
  where
    coming : (lines ≡ []) ⊎ ((how ≡ Short) × GotTo g Short k h lines told) → (lines ≡ []) ⊎ ((how ≡ Short) × GotTo g Short k (h ++ more) lines told)
    coming (inl none) = inl none
    coming (inr got) = inr (got.0, got-others g Short k h more lines told e got.1)
last-others g how place.Here k h more lines told e s = (
  ap is_here (presence-append k Away h more ∙ presence-others g k (presence_from k Away h) more e) ∙ s.0,
  s.1,
  got-others g how k h more lines told e s.2,
)
last-others g how place.Gone k h more lines told e s = (s.0, left-others g how k h more lines told e s.1)

other-parting : (g : Setting) (kind : Kind) (how : How) (who other : ℕ) (h h' : List Entry) (lines : List (List ℕ)) (held held' : HeldClient) → GrowsBy g who h h' → other ≢ who → held' ≡ held → IsParting g kind how other h lines held → IsParting g kind how other h' lines held'
other-parting g kind how who other h h' lines held held' grows differs same c =
    subst (λ q. IsParting g kind how other h' lines q) (sym same) (record {
      shown = c.shown;
      kind_is = c.kind_is;
      keeps = c.keeps;
      stands = subst (λ q. StandsLast g how held.place other q lines (json_lines c.shown.told)) (sym grows.grows)
          (last-others g how held.place other h grows.more lines (json_lines c.shown.told) (grows.alone other differs) c.stands);
    })

-- one client's place changes, and the others stay
one-parts : (g : Setting) (kinds : List Kind) (hows hows' : ℕ → How) (who : ℕ) (lines lines' : List (List ℕ)) (h h' : List Entry) (held held' : ℕ → HeldClient)
    → ((other : ℕ) → other < length kinds → other ≢ who → IsParting g (get_or kinds other Silent) (hows other) other h (lines_for (length kinds) other lines) (held other)) → GrowsBy g who h h'
    → ((other : ℕ) → other ≢ who → lines_for (length kinds) other lines' ≡ lines_for (length kinds) other lines) → ((other : ℕ) → other ≢ who → hows' other ≡ hows other) → ((other : ℕ) → other ≢ who → held' other ≡ held other)
    → IsParting g (get_or kinds who Silent) (hows' who) who h' (lines_for (length kinds) who lines') (held' who)
    → (other : ℕ) → other < length kinds → IsParting g (get_or kinds other Silent) (hows' other) other h' (lines_for (length kinds) other lines') (held' other)
one-parts g kinds hows hows' who lines lines' h h' held held' before grows theirs far same mine other below = by (other == who) refl
  where
    by : (t : Bool) → (other == who) ≡ t → IsParting g (get_or kinds other Silent) (hows' other) other h' (lines_for (length kinds) other lines') (held' other)
    by true e = subst (λ k. IsParting g (get_or kinds k Silent) (hows' k) k h' (lines_for (length kinds) k lines') (held' k)) (sym (eqb-true other who e)) mine
    by false e =
        let differs : other ≢ who = eqb-false other who e in
        subst (λ how. IsParting g (get_or kinds other Silent) how other h' (lines_for (length kinds) other lines') (held' other)) (sym (far other differs))
        (subst (λ q. IsParting g (get_or kinds other Silent) (hows other) other h' q (held' other)) (sym (theirs other differs))
        (other-parting g (get_or kinds other Silent) (hows other) who other h h' (lines_for (length kinds) other lines) (held other) (held' other) grows differs (same other differs) (before other below differs)))

smaller : (a b : ℕ) → a < b + 1 → a ≢ b → a < b
smaller a b le ne = elim (cases_lt a b) [ inl lt ↦ lt | inr past ↦ absurd (ne (omega (arith, le, past))) ]

pub apart : (n k other : ℕ) → n ≤ other → k < n → other ≢ k
apart n k other past inside e = absurd (omega (arith, past, e, inside))

-- the next client left
pub one-parted : (g : Setting) (kinds : List Kind) (hows : ℕ → How) (who : ℕ) (lines : List (List ℕ)) (h h' : List Entry) (held held' : ℕ → HeldClient) → AreParting g kinds hows who lines (moment h held) → GrowsBy g who h h' → who < length kinds
    → ((other : ℕ) → other ≢ who → held' other ≡ held other) → (held' who).place ≢ place.Here
    → IsParting g (get_or kinds who Silent) (hows who) who h' (lines_for (length kinds) who lines) (held' who) → AreParting g kinds hows (who + 1) lines (moment h' held')
one-parted g kinds hows who lines h h' held held' m grows inside same gone mine = record {
  clients = one-parts g kinds hows hows who lines lines h h' held held' (λ other below differs. m.clients other below) grows (λ other differs. refl) (λ other differs. refl) same mine;
  parted = λ other below. by other below (other == who) refl;
  strangers = λ other past. still-strange g who other h h' grows (apart (length kinds) who other past inside) (m.strangers other past);
}
  where
    by : (other : ℕ) → other < who + 1 → (t : Bool) → (other == who) ≡ t → (held' other).place ≢ place.Here
    by other below true e = subst (λ k. (held' k).place ≢ place.Here) (sym (eqb-true other who e)) gone
    by other below false e =
        let differs : other ≢ who = eqb-false other who e in
        subst (λ q. q.place ≢ place.Here) (sym (same other differs)) (m.parted other (smaller other who below differs))

-- the next client isn't here
pub none-parted : (g : Setting) (kinds : List Kind) (hows : ℕ → How) (who : ℕ) (lines : List (List ℕ)) (h : List Entry) (held : ℕ → HeldClient) → AreParting g kinds hows who lines (moment h held) → (held who).place ≢ place.Here → AreParting g kinds hows (who + 1) lines (moment h held)
none-parted g kinds hows who lines h held m away = record { clients = m.clients; parted = λ other below. by other below (other == who) refl; strangers = m.strangers }
  where
    by : (other : ℕ) → other < who + 1 → (t : Bool) → (other == who) ≡ t → (held other).place ≢ place.Here
    by other below true e = subst (λ k. (held k).place ≢ place.Here) (sym (eqb-true other who e)) away
    by other below false e = m.parted other (smaller other who below (eqb-false other who e))

-- an event of a client was refused in its line, and it is to part as the others
pub refused-begins : (g : Setting) (kinds : List Kind) (who : ℕ) (lines : List (List ℕ)) (w line : List ℕ) (h h' : List Entry) (held held' : ℕ → HeldClient) → IsMoment g kinds lines (moment h held) → GrowsBy g who h h' → who < length kinds
    → written (length kinds) w ≡ Of who line → ((other : ℕ) → other ≢ who → held' other ≡ held other)
    → IsParting g (get_or kinds who Silent) Short who h' (lines_for (length kinds) who (lines ++ w ∷ [])) (held' who) → AreParting g kinds (hows_at who held) 0 (lines ++ w ∷ []) (moment h' held')
refused-begins g kinds who lines w line h h' held held' m grows inside is same mine = record {
  clients = one-parts g kinds (λ other. how_at (held other).place) (hows_at who held) who lines (lines ++ w ∷ []) h h' held held'
      (λ other below differs. client-parting g (get_or kinds other Silent) other h (lines_for (length kinds) other lines) (held other) (m.clients other below)) grows
      (λ other differs. lines-others (length kinds) other who lines w line is differs)
      (λ other differs. ap (λ t. if t then Short else how_at (held other).place) (ne_eqb other who differs)) same
      (subst (λ how. IsParting g (get_or kinds who Silent) how who h' (lines_for (length kinds) who (lines ++ w ∷ [])) (held' who)) (sym (ap (λ t. if t then Short else how_at (held who).place) (eq-eqb who who refl))) mine);
  parted = λ other below. absurd (omega (arith, below));
  strangers = λ other past. still-strange g who other h h' grows (apart (length kinds) who other past inside) (m.strangers other past);
}

-- a client with a line stands at an end as for that end
pub stands-at : (end : End) (g : Setting) (k : ℕ) (h : List Entry) (lines : List (List ℕ)) (told : List ℕ) → 0 < length lines → StandsFor (protocol g.reads []) (rules g.gives) end k h (turns_of lines) told → StandsAt end g k h lines told
stands-at end g k h [] told some s = absurd (omega (arith, some))
stands-at end g k h (line ∷ lines) told some s = s

pub never-came : (end : End) (g : Setting) (k : ℕ) (h : List Entry) (lines : List (List ℕ)) (told : List ℕ) → own (rules g.gives) k h ≡ [] → told ≡ [] → lines ≡ [] → StandsAt end g k h lines told
never-came end g k h lines told none nothing e = subst (λ q. StandsAt end g k h q told) (sym e) (none, nothing)

-- a coming that was refused, behind a line
refused-at : (g : Setting) (k : ℕ) (h : List Entry) (lines : List (List ℕ)) (told : List ℕ) → own (rules g.gives) k h ≡ [] → told ≡ [] → GotTo g Short k h lines told → StandsAt Refused g k h lines told
refused-at g k h [] told none nothing s = (none, nothing)
refused-at g k h (line ∷ lines) told none nothing s = never-refused g k h (line ∷ lines) told none s

-- a client that isn't here any more stands as it ended
pub last-ended : (g : Setting) (how : How) (p : ClientPlace) (k : ℕ) (h : List Entry) (lines : List (List ℕ)) (told : List ℕ) → IsEnding how → p ≢ place.Here → StandsLast g how p k h lines told → StandsAt (ends_as how) g k h lines told
last-ended g how place.Here k h lines told ending away s = absurd (away refl)
last-ended g how place.Away k h lines told ending away s = by s.2
  where
    by : (lines ≡ []) ⊎ ((how ≡ Short) × GotTo g Short k h lines told) → StandsAt (ends_as how) g k h lines told
    by (inl e) = never-came (ends_as how) g k h lines told s.0 s.1 e
    by (inr got) = subst (λ q. StandsAt (ends_as q) g k h lines told) (sym got.0) (refused-at g k h lines told s.0 s.1 got.1)
last-ended g Whole place.Gone k h lines told ending away s = stands-at Closed g k h lines told s.0 (left-closed g k h lines told s.1)
last-ended g Over place.Gone k h lines told ending away s = stands-at Left g k h lines told s.0 (left-left g k h lines told s.1)
last-ended g Short place.Gone k h lines told ending away s = stands-at Refused g k h lines told s.0 (left-refused g k h lines told s.1)
last-ended g Unsent place.Gone k h lines told ending away s = absurd ending
last-ended g Lost place.Gone k h lines told ending away s = absurd ending

-- and its report is held, also where it never came
nothing-told : (shown : Shown) → json_lines shown.told ≡ [] → report_of shown ≡ []
nothing-told shown e = by shown.kind
  where
    by : (kind : Kind) → report_of (record { kind = kind; told = shown.told }) ≡ []
    by Json = e
    by Silent = refl
    by Screen = ap screen_text (none-told shown.told e)

pub last-report : (g : Setting) (kind : Kind) (how : How) (k : ℕ) (h : List Entry) (lines : List (List ℕ)) (held : HeldClient) → held.place ≢ place.Here → (c : IsParting g kind how k h lines held) → held.report ≡ report_of c.shown
last-report g kind how k h lines held away c = by held.place away c.keeps c.stands
  where
    by : (p : ClientPlace) → p ≢ place.Here → Keeps p held c.shown → StandsLast g how p k h lines (json_lines c.shown.told) → held.report ≡ report_of c.shown
    by place.Away away keeps stands = keeps.1 ∙ sym (nothing-told c.shown stands.1)
    by place.Here away keeps stands = absurd (away refl)
    by place.Gone away keeps stands = keeps.1

-- and its box is there
pub last-box : (g : Setting) (kind : Kind) (how : How) (k : ℕ) (h : List Entry) (lines : List (List ℕ)) (held : HeldClient) → (c : IsParting g kind how k h lines held) → held.box ≡ Some c.shown
last-box g kind how k h lines held c = by held.place c.keeps
  where
    by : (p : ClientPlace) → Keeps p held c.shown → held.box ≡ Some c.shown
    by place.Away keeps = keeps.0
    by place.Here keeps = keeps.0
    by place.Gone keeps = keeps.0

-- behind lines that were played, and one whose event was refused, each client has one of these ways
pub how-ends : (p : ClientPlace) → IsEnding (how_at p)
how-ends place.Away = tt
how-ends place.Here = tt
how-ends place.Gone = tt

pub hows-end : (who : ℕ) (held : ℕ → HeldClient) (other : ℕ) → IsEnding (hows_at who held other)
hows-end who held other = elim (other == who) as (λ t. IsEnding (if t then Short else how_at (held other).place)) [ true ↦ tt | false ↦ how-ends (held other).place ]
