-- What stands for the clients of a replay when it has ended.
use Rattle.std.proofs.Common.{◌≡◌, ℕ, inl, inr, List, [], ◌∷◌, refl, sym, ◌∙◌, subst}
use Rattle.session_turns.specs.Histories.{Answer, own, events_of}
use Rattle.session_turns.specs.Turns.{phases, turns_of}
use Rattle.session_turns.specs.Growth.{How, Whole, Over, Short, Lost, IsShort}
use Rattle.session_turns.specs.Headline.{Left, Closed, Refused, Lost as WasLost, Stands as StandsFor}
use Rattle.session_turns.proofs.HistoryLemmas.{adds-answers, adds-own_events}
use Rattle.session_turns.proofs.Ends.{HasLeft, HasLost, left-stands, closed-stands, refused-stands, never-stands, whole-lost, over-lost, short-lost, lost-lost}
use Rattle.session_events.specs.declared.event.Event.{Event}
use Rattle.session_events.specs.declared.event.Entry.{Entry}
use Rattle.session_events.specs.Meaning.{rules}
use Rattle.session_lines.specs.Session.{protocol}
use Rattle.session_replay.specs.Settings.{Setting}
use Rattle.session_replay.specs.Clients.{GotTo, LeftAt}

has-left : (g : Setting) (how : How) (k : ℕ) (h : List Entry) (lines : List (List ℕ)) (told : List ℕ) → (l : LeftAt g how k h lines told) → HasLeft (protocol g.reads []) (rules g.gives) k h l.got
has-left g how k h lines told l = record { answered = l.answered; stood = l.events }

-- a client that was played all of its lines and then left
pub left-closed : (g : Setting) (k : ℕ) (h : List Entry) (lines : List (List ℕ)) (told : List ℕ) → LeftAt g Whole k h lines told → StandsFor (protocol g.reads []) (rules g.gives) Closed k h (turns_of lines) told
left-closed g k h lines told l = closed-stands (protocol g.reads []) (rules g.gives) k h (turns_of lines) l.got told l.fits (has-left g Whole k h lines told l)

-- a client that was let go by one of its lines
pub left-left : (g : Setting) (k : ℕ) (h : List Entry) (lines : List (List ℕ)) (told : List ℕ) → LeftAt g Over k h lines told → StandsFor (protocol g.reads []) (rules g.gives) Left k h (turns_of lines) told
left-left g k h lines told l = left-stands (protocol g.reads []) (rules g.gives) k h (turns_of lines) l.got told l.fits (has-left g Over k h lines told l)

-- a client of which an event was refused, and that then left
pub left-refused : (g : Setting) (k : ℕ) (h : List Entry) (lines : List (List ℕ)) (told : List ℕ) → LeftAt g Short k h lines told → StandsFor (protocol g.reads []) (rules g.gives) Refused k h (turns_of lines) told
left-refused g k h lines told l = refused-stands (protocol g.reads []) (rules g.gives) k h (turns_of lines) l.got told l.fits (has-left g Short k h lines told l)

pub no-answers : (got : List (Answer Event)) → events_of got ≡ [] → got ≡ []
no-answers [] e = refl
no-answers (answer ∷ got) e = cc

-- a client whose coming was refused
pub never-refused : (g : Setting) (k : ℕ) (h : List Entry) (lines : List (List ℕ)) (told : List ℕ) → own (rules g.gives) k h ≡ [] → GotTo g Short k h lines told → StandsFor (protocol g.reads []) (rules g.gives) Refused k h (turns_of lines) told
never-refused g k h lines told none s =
    let nothing : s.got ≡ [] = no-answers s.got (sym (adds-own_events (rules g.gives) k h s.got s.adds) ∙ none) in
    never-stands (protocol g.reads []) (rules g.gives) k h (turns_of lines) told
    (subst (λ q. IsShort (protocol g.reads []) (phases (turns_of lines)) q told) nothing s.fits)
    (record { answered = adds-answers (rules g.gives) k h s.got s.adds ∙ nothing; stood = none })

has-got : (g : Setting) (how : How) (k : ℕ) (h : List Entry) (lines : List (List ℕ)) (told : List ℕ) → (s : GotTo g how k h lines told) → HasLost (protocol g.reads []) (rules g.gives) k h s.got
has-got g how k h lines told s = record { answered = adds-answers (rules g.gives) k h s.got s.adds; stood = inl (adds-own_events (rules g.gives) k h s.got s.adds) }

has-gone : (g : Setting) (how : How) (k : ℕ) (h : List Entry) (lines : List (List ℕ)) (told : List ℕ) → (l : LeftAt g how k h lines told) → HasLost (protocol g.reads []) (rules g.gives) k h l.got
has-gone g how k h lines told l = record { answered = l.answered; stood = inr l.events }

-- where something was lost, whatever a client got to is a beginning, whether or not it left
pub got-lost : (g : Setting) (k : ℕ) (h : List Entry) (lines : List (List ℕ)) (told : List ℕ) → GotTo g Lost k h lines told → StandsFor (protocol g.reads []) (rules g.gives) WasLost k h (turns_of lines) told
got-lost g k h lines told s = lost-lost (protocol g.reads []) (rules g.gives) k h (turns_of lines) s.got told s.fits (has-got g Lost k h lines told s)

pub whole-is-lost : (g : Setting) (k : ℕ) (h : List Entry) (lines : List (List ℕ)) (told : List ℕ) → GotTo g Whole k h lines told → StandsFor (protocol g.reads []) (rules g.gives) WasLost k h (turns_of lines) told
whole-is-lost g k h lines told s = whole-lost (protocol g.reads []) (rules g.gives) k h (turns_of lines) s.got told s.fits (has-got g Whole k h lines told s)

pub over-is-lost : (g : Setting) (k : ℕ) (h : List Entry) (lines : List (List ℕ)) (told : List ℕ) → GotTo g Over k h lines told → StandsFor (protocol g.reads []) (rules g.gives) WasLost k h (turns_of lines) told
over-is-lost g k h lines told s = over-lost (protocol g.reads []) (rules g.gives) k h (turns_of lines) s.got told s.fits (has-got g Over k h lines told s)

pub short-is-lost : (g : Setting) (k : ℕ) (h : List Entry) (lines : List (List ℕ)) (told : List ℕ) → GotTo g Short k h lines told → StandsFor (protocol g.reads []) (rules g.gives) WasLost k h (turns_of lines) told
short-is-lost g k h lines told s = short-lost (protocol g.reads []) (rules g.gives) k h (turns_of lines) s.got told s.fits (has-got g Short k h lines told s)

pub left-is-lost : (g : Setting) (k : ℕ) (h : List Entry) (lines : List (List ℕ)) (told : List ℕ) → LeftAt g Over k h lines told → StandsFor (protocol g.reads []) (rules g.gives) WasLost k h (turns_of lines) told
left-is-lost g k h lines told l = over-lost (protocol g.reads []) (rules g.gives) k h (turns_of lines) l.got told l.fits (has-gone g Over k h lines told l)

pub closed-is-lost : (g : Setting) (k : ℕ) (h : List Entry) (lines : List (List ℕ)) (told : List ℕ) → LeftAt g Whole k h lines told → StandsFor (protocol g.reads []) (rules g.gives) WasLost k h (turns_of lines) told
closed-is-lost g k h lines told l = whole-lost (protocol g.reads []) (rules g.gives) k h (turns_of lines) l.got told l.fits (has-gone g Whole k h lines told l)

pub refused-is-lost : (g : Setting) (k : ℕ) (h : List Entry) (lines : List (List ℕ)) (told : List ℕ) → LeftAt g Short k h lines told → StandsFor (protocol g.reads []) (rules g.gives) WasLost k h (turns_of lines) told
refused-is-lost g k h lines told l = short-lost (protocol g.reads []) (rules g.gives) k h (turns_of lines) l.got told l.fits (has-gone g Short k h lines told l)
