-- How clients of a replay go on standing where they stand, and what stands for them at the end.
use Rattle.std.proofs.Common.{◌≡◌, ◌≢◌, ℕ, ◌<◌, ◌≤◌, ◌==◌, Bool, true, false, List, [], ◌∷◌, ◌++◌, length, refl, sym, ap, ◌∙◌, subst, arith, append-nil, length-append}
use Rattle.std.specs.Prelude.{if◌then◌else◌, get_or, Some}
use Rattle.std.proofs.lemmas.Bool.Decides.{Decides-eqb}
use Rattle.std.proofs.lemmas.List.{map-append}
use Rattle.ui_board.specs.declared.ui.Kind.{Kind}
use Rattle.ui_board.specs.declared.ui.Kind.TheVariants.{Silent}
use Rattle.ui_board.specs.Told.{untold}
use Rattle.session_turns.specs.Histories.{own, answers}
use Rattle.session_turns.specs.Turns.{Line, During, Opening, later, phases, turns_of}
use Rattle.session_turns.specs.Growth.{How, Whole, Over, Adds, IsOver}
use Rattle.session_turns.proofs.HistoryLemmas.{own-append, answers_behind-append, answers_behind-others, adds-others, adds-append}
use Rattle.session_turns.proofs.TurnLemmas.{over-more}
use Rattle.session_events.specs.declared.event.Entry.{Entry}
use Rattle.session_events.specs.Entries.{kind_of}
use Rattle.session_events.specs.Legal.{Presence, Away, is_here, presence_after, presence_from}
use Rattle.session_events.specs.Meaning.{rules}
use Rattle.session_events.proofs.LegalLemmas.{presence-append}
use Rattle.session_lines.specs.Session.{protocol}
use Rattle.session_replay.specs.Settings.{Setting}
use Rattle.session_replay.specs.declared.places.ClientPlace.{ClientPlace}
use Rattle.session_replay.specs.declared.places.ClientPlace.TheVariants as place
use Rattle.session_replay.specs.Written.{Blank, Of, Bad, written, line_for, lines_for}
use Rattle.session_replay.specs.Clients.{GotTo, LeftAt, ClientStands, HeldClient, IsClient, IsMoment, GrowsBy, moment}
use Rattle.session_replay.proofs.LineLemmas.{lines_for-line, line_for-own, line_for-other}

-- entries of others leave a client where it is
presence-step : (g : Setting) (k : ℕ) (t : Bool) (p : Presence) (entry : Entry) (more : List Entry) → ((q : Presence) → own (rules g.gives) k more ≡ [] → presence_from k q more ≡ q)
    → (if t then entry.event ∷ own (rules g.gives) k more else own (rules g.gives) k more) ≡ [] → presence_from k (if t then presence_after (kind_of entry.event) p else p) more ≡ p
presence-step g k true p entry more next e = cc
presence-step g k false p entry more next e = next p e

pub presence-others : (g : Setting) (k : ℕ) (p : Presence) (more : List Entry) → own (rules g.gives) k more ≡ [] → presence_from k p more ≡ p
presence-others g k p [] e = refl
presence-others g k p (entry ∷ more) e = presence-step g k (entry.who == k) p entry more (λ q o. presence-others g k q more o) e

-- entries of others leave a client's own events and its answers
pub own-others : (g : Setting) (k : ℕ) (h more : List Entry) → own (rules g.gives) k more ≡ [] → own (rules g.gives) k (h ++ more) ≡ own (rules g.gives) k h
own-others g k h more e = own-append (rules g.gives) k h more ∙ ap (λ q. own (rules g.gives) k h ++ q) e ∙ append-nil (own (rules g.gives) k h)

pub answers-others : (g : Setting) (k : ℕ) (h more : List Entry) → own (rules g.gives) k more ≡ [] → answers (rules g.gives) k (h ++ more) ≡ answers (rules g.gives) k h
answers-others g k h more e =
    answers_behind-append (rules g.gives) k [] h more ∙ ap (λ q. answers (rules g.gives) k h ++ q) (answers_behind-others (rules g.gives) k h more e) ∙ append-nil (answers (rules g.gives) k h)

pub got-others : (g : Setting) (how : How) (k : ℕ) (h more : List Entry) (lines : List (List ℕ)) (told : List ℕ) → own (rules g.gives) k more ≡ [] → GotTo g how k h lines told → GotTo g how k (h ++ more) lines told
got-others g how k h more lines told e s = record {
  got = s.got;
  adds = subst (λ q. Adds (rules g.gives) k [] (h ++ more) q) (append-nil s.got) (adds-append (rules g.gives) k [] h (h ++ more) s.got [] s.adds (adds-others (rules g.gives) k h more e));
  fits = s.fits;
}

pub left-others : (g : Setting) (how : How) (k : ℕ) (h more : List Entry) (lines : List (List ℕ)) (told : List ℕ) → own (rules g.gives) k more ≡ [] → LeftAt g how k h lines told → LeftAt g how k (h ++ more) lines told
left-others g how k h more lines told e s = record {
  got = s.got;
  answered = answers-others g k h more e ∙ s.answered;
  events = own-others g k h more e ∙ s.events;
  fits = s.fits;
}

-- a client stands where it stands behind entries of others
pub stands-others : (g : Setting) (p : ClientPlace) (k : ℕ) (h more : List Entry) (lines : List (List ℕ)) (told : List ℕ) → own (rules g.gives) k more ≡ [] → ClientStands g p k h lines told → ClientStands g p k (h ++ more) lines told
stands-others g place.Away k h more lines told e s = (own-others g k h more e ∙ s.0, s.1, s.2)
stands-others g place.Here k h more lines told e s = (
  ap is_here (presence-append k Away h more ∙ presence-others g k (presence_from k Away h) more e) ∙ s.0,
  s.1,
  got-others g Whole k h more lines told e s.2,
)
stands-others g place.Gone k h more lines told e s = (s.0, left-others g Over k h more lines told e s.1)

pub client-others : (g : Setting) (kind : Kind) (k : ℕ) (h more : List Entry) (lines : List (List ℕ)) (held : HeldClient) → own (rules g.gives) k more ≡ [] → IsClient g kind k h lines held → IsClient g kind k (h ++ more) lines held
client-others g kind k h more lines held e c = record {
  shown = c.shown;
  kind_is = c.kind_is;
  keeps = c.keeps;
  stands = stands-others g held.place k h more lines _ e c.stands;
}

-- the phases of lines behind lines
pub phases-append : (lines more : List (List ℕ)) → phases (turns_of (lines ++ more)) ≡ phases (turns_of lines) ++ later (turns_of more)
phases-append lines more =
    ap (λ turns. phases turns) (map-append (λ line. Line line) lines more)
    ∙ ap (λ all. Opening ∷ all) (map-append (λ turn. During turn) (turns_of lines) (turns_of more))

-- lines behind the one that let a client go are passed over
pub gone-lines : (g : Setting) (k : ℕ) (h : List Entry) (lines more : List (List ℕ)) (told : List ℕ) → LeftAt g Over k h lines told → LeftAt g Over k h (lines ++ more) told
gone-lines g k h lines more told s = record {
  got = s.got;
  answered = s.answered;
  events = s.events;
  fits = subst (λ all. IsOver (protocol g.reads []) all s.got told) (sym (phases-append lines more))
      (over-more (protocol g.reads []) (phases (turns_of lines)) (later (turns_of more)) s.got told s.fits);
}

pub some-line : (lines : List (List ℕ)) (line : List ℕ) → 0 < length (lines ++ line ∷ [])
some-line lines line = omega (arith, length-append lines (line ∷ []))

pub stands-gone : (g : Setting) (k : ℕ) (h : List Entry) (lines : List (List ℕ)) (line : List ℕ) (told : List ℕ) → ClientStands g place.Gone k h lines told → ClientStands g place.Gone k h (lines ++ line ∷ []) told
stands-gone g k h lines line told s = (some-line lines line, gone-lines g k h lines (line ∷ []) told s.1)

-- what a written line is for a client, where it is nobody's or another's
lines-passed : (count k : ℕ) (lines : List (List ℕ)) (w : List ℕ) → line_for k (written count w) ≡ [] → lines_for count k (lines ++ w ∷ []) ≡ lines_for count k lines
lines-passed count k lines w e = lines_for-line count k lines w ∙ ap (λ q. lines_for count k lines ++ q) e ∙ append-nil (lines_for count k lines)

pub lines-own : (count k : ℕ) (lines : List (List ℕ)) (w line : List ℕ) → written count w ≡ Of k line → lines_for count k (lines ++ w ∷ []) ≡ lines_for count k lines ++ line ∷ []
lines-own count k lines w line e = lines_for-line count k lines w ∙ ap (λ q. lines_for count k lines ++ q) (ap (line_for k) e ∙ line_for-own k line)

pub lines-others : (count k who : ℕ) (lines : List (List ℕ)) (w line : List ℕ) → written count w ≡ Of who line → k ≢ who → lines_for count k (lines ++ w ∷ []) ≡ lines_for count k lines
lines-others count k who lines w line e differs = lines-passed count k lines w (ap (line_for k) e ∙ line_for-other k who line differs)

-- another client's place in a moment, behind entries of one client alone
other-client : (g : Setting) (kind : Kind) (who other : ℕ) (h h' : List Entry) (lines : List (List ℕ)) (held held' : HeldClient) → GrowsBy g who h h' → other ≢ who → held' ≡ held → IsClient g kind other h lines held → IsClient g kind other h' lines held'
other-client g kind who other h h' lines held held' grows differs same c =
    let here : IsClient g kind other (h ++ grows.more) lines held = client-others g kind other h grows.more lines held (grows.alone other differs) c in
    let there : IsClient g kind other h' lines held = subst (λ q. IsClient g kind other q lines held) (sym grows.grows) here in
    subst (λ q. IsClient g kind other h' lines q) (sym same) there

-- nothing of an entry of one client concerns a stranger
pub still-strange : (g : Setting) (who other : ℕ) (h h' : List Entry) → GrowsBy g who h h' → other ≢ who → own (rules g.gives) other h ≡ [] → own (rules g.gives) other h' ≡ []
still-strange g who other h h' grows differs none = ap (own (rules g.gives) other) grows.grows ∙ own-others g other h grows.more (grows.alone other differs) ∙ none

-- one client's place in a moment changes, and the others stay
one-moves : (g : Setting) (kinds : List Kind) (who : ℕ) (lines lines' : List (List ℕ)) (h h' : List Entry) (held held' : ℕ → HeldClient) → IsMoment g kinds lines (moment h held) → GrowsBy g who h h' → who < length kinds
    → ((other : ℕ) → other ≢ who → lines_for (length kinds) other lines' ≡ lines_for (length kinds) other lines) → ((other : ℕ) → other ≢ who → held' other ≡ held other)
    → IsClient g (get_or kinds who Silent) who h' (lines_for (length kinds) who lines') (held' who) → IsMoment g kinds lines' (moment h' held')
one-moves g kinds who lines lines' h h' held held' m grows inside theirs same mine = record {
  clients = λ other below. by other below (other == who) refl;
  strangers = λ other past. still-strange g who other h h' grows (apart other past) (m.strangers other past);
}
  where
    apart : (other : ℕ) → length kinds ≤ other → other ≢ who
    apart other past e = absurd (omega (arith, past, e, inside))

    differ : (other : ℕ) → (other == who) ≡ false → other ≢ who
    differ other e is = let equal : (other == who) ≡ true = (Decides-eqb other who).1 is in cc

    by : (other : ℕ) → other < length kinds → (t : Bool) → (other == who) ≡ t → IsClient g (get_or kinds other Silent) other h' (lines_for (length kinds) other lines') (held' other)
    by other below true e = subst (λ k. IsClient g (get_or kinds k Silent) k h' (lines_for (length kinds) k lines') (held' k)) (sym ((Decides-eqb other who).0 e)) mine
    by other below false e =
        let differs : other ≢ who = differ other e in
        subst (λ q. IsClient g (get_or kinds other Silent) other h' q (held' other)) (sym (theirs other differs))
        (other-client g (get_or kinds other Silent) who other h h' (lines_for (length kinds) other lines) (held other) (held' other) grows differs (same other differs) (m.clients other below))

-- a written line was played for its client
pub moment-line : (g : Setting) (kinds : List Kind) (who : ℕ) (lines : List (List ℕ)) (w line : List ℕ) (h h' : List Entry) (held held' : ℕ → HeldClient) → IsMoment g kinds lines (moment h held) → GrowsBy g who h h' → who < length kinds
    → written (length kinds) w ≡ Of who line → ((other : ℕ) → other ≢ who → held' other ≡ held other)
    → IsClient g (get_or kinds who Silent) who h' (lines_for (length kinds) who lines ++ line ∷ []) (held' who) → IsMoment g kinds (lines ++ w ∷ []) (moment h' held')
moment-line g kinds who lines w line h h' held held' m grows inside is same mine =
    one-moves g kinds who lines (lines ++ w ∷ []) h h' held held' m grows inside (λ other differs. lines-others (length kinds) other who lines w line is differs) same
    (subst (λ q. IsClient g (get_or kinds who Silent) who h' q (held' who)) (sym (lines-own (length kinds) who lines w line is)) mine)

-- a client moved though no line was played, as where it leaves at the end
pub moment-moves : (g : Setting) (kinds : List Kind) (who : ℕ) (lines : List (List ℕ)) (h h' : List Entry) (held held' : ℕ → HeldClient) → IsMoment g kinds lines (moment h held) → GrowsBy g who h h' → who < length kinds
    → ((other : ℕ) → other ≢ who → held' other ≡ held other)
    → IsClient g (get_or kinds who Silent) who h' (lines_for (length kinds) who lines) (held' who) → IsMoment g kinds lines (moment h' held')
moment-moves g kinds who lines h h' held held' m grows inside same mine =
    one-moves g kinds who lines lines h h' held held' m grows inside (λ other differs. refl) same mine

-- a written line is nobody's
moment-nobody : (g : Setting) (kinds : List Kind) (lines : List (List ℕ)) (w : List ℕ) (h : List Entry) (held : ℕ → HeldClient) → IsMoment g kinds lines (moment h held) → ((k : ℕ) → line_for k (written (length kinds) w) ≡ []) → IsMoment g kinds (lines ++ w ∷ []) (moment h held)
moment-nobody g kinds lines w h held m none = record {
  clients = λ k below. subst (λ q. IsClient g (get_or kinds k Silent) k h q (held k)) (sym (lines-passed (length kinds) k lines w (none k))) (m.clients k below);
  strangers = m.strangers;
}

pub moment-blank : (g : Setting) (kinds : List Kind) (lines : List (List ℕ)) (w : List ℕ) (h : List Entry) (held : ℕ → HeldClient) → IsMoment g kinds lines (moment h held) → written (length kinds) w ≡ Blank → IsMoment g kinds (lines ++ w ∷ []) (moment h held)
moment-blank g kinds lines w h held m e = moment-nobody g kinds lines w h held m (λ k. ap (line_for k) e)

pub moment-bad : (g : Setting) (kinds : List Kind) (lines : List (List ℕ)) (w : List ℕ) (h : List Entry) (held : ℕ → HeldClient) → IsMoment g kinds lines (moment h held) → written (length kinds) w ≡ Bad → IsMoment g kinds (lines ++ w ∷ []) (moment h held)
moment-bad g kinds lines w h held m e = moment-nobody g kinds lines w h held m (λ k. ap (line_for k) e)

-- before the first line nobody has come, and each has a box that was told nothing
pub moment-begins : (g : Setting) (kinds : List Kind) (held : ℕ → HeldClient) → ((who : ℕ) → who < length kinds → held who ≡ record { place = place.Away; box = Some (untold (get_or kinds who Silent)); report = [] }) → IsMoment g kinds [] (moment [] held)
moment-begins g kinds held each = record {
  clients = λ who inside. subst (λ q. IsClient g (get_or kinds who Silent) who [] [] q) (sym (each who inside)) (record {
    shown = untold (get_or kinds who Silent);
    kind_is = refl;
    keeps = (refl, refl);
    stands = (refl, refl, refl);
  });
  strangers = λ who past. refl;
}
