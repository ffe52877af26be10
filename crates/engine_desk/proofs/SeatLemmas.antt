-- What the steps and the looks of a pass are to the seat of its client.
use Rattle.std.proofs.Common.{◌≡◌, ⊎_elim, inl, ℕ, Bool, true, false, List, [], ◌∷◌, ◌++◌, length, refl, sym, ap, ◌∙◌, subst, arith, append-nil, length-append}
use Rattle.std.specs.Prelude.{if◌then◌else◌, ◌==◌, ◌&&◌, not, Some, None, IfSome}
use Rattle.std.specs.declared.option.Option.{Option}
use Rattle.std.proofs.lemmas.Bool.{eq-eqb}
use Rattle.session_turns.specs.Growth.{Begins}
use Rattle.session_desk.specs.Histories.{entries_by as own_entries, Met}
use Rattle.session_desk.specs.Tokens.{Home, DeskPlace, IsOf, PassView, IsSamePass, PassAdds, PassRefuses, SeesMore}
use Rattle.session_desk.proofs.HistoryLemmas.{starts_itself, starts_through, none_between, met_through}
use Rattle.session_turns.specs.Histories.{own}
use Rattle.session_events.specs.declared.event.Event.{Event}
use Rattle.session_events.specs.declared.event.Entry.{Entry}
use Rattle.session_events.specs.declared.event.Output.{Output}
use Rattle.session_events.specs.declared.fault.StepFault.{StepFault}
use Rattle.session_events.specs.declared.kind.Kind.{Kind}
use Rattle.session_events.specs.declared.kind.Kind.TheVariants.{Coming, Doing, Drawing, Going}
use Rattle.session_events.specs.Entries.{kind_of, is_going, is_leave, is_drawing, entry_with}
use Rattle.session_events.specs.Legal.{Presence, Away, is_here, presence_after, presence_from}
use Rattle.session_events.specs.Meaning.{Gives, rules}
use Rattle.session_events.specs.Seats.{Seated, IsIn, Steps, Sees}
use Rattle.session_events.proofs.LegalLemmas.{presence-append}
use Rattle.session_events.specs.Missing.{has_news, has_missed}
use Rattle.session_events.proofs.MissingLemmas.{news-new, news-drawn}
use Rattle.kak_engine.specs.Steps.{given_by}
use Rattle.engine_desk.specs.Sharing.{Frame, MoveAnswers, TakesMove}
use Rattle.engine_desk.specs.Sitting.{IsAtDesk, desk_seat_of, missed_behind}

abbrev pub whose : Entry → ℕ
whose e = e.who

-- entries of others are nothing that the client did
foreign : (gives : Gives) (who : ℕ) (entries : List Entry) → own_entries whose who entries ≡ [] → own (rules gives) who entries ≡ []
foreign gives who [] h = refl
foreign gives who (e ∷ entries) h = by (e.who == who) (foreign gives who entries) h
  where
    by : (t : Bool) → (own_entries whose who entries ≡ [] → own (rules gives) who entries ≡ []) → (if t then e ∷ own_entries whose who entries else own_entries whose who entries) ≡ [] → (if t then e.event ∷ own (rules gives) who entries else own (rules gives) who entries) ≡ []
    by true f g = cc
    by false f g = f g

-- nor do they make it come or go
presence-foreign : (who : ℕ) (p : Presence) (entries : List Entry) → own_entries whose who entries ≡ [] → presence_from who p entries ≡ p
presence-foreign who p [] h = refl
presence-foreign who p (e ∷ entries) h = by (e.who == who) (presence-foreign who p entries) h
  where
    by : (t : Bool) → (own_entries whose who entries ≡ [] → presence_from who p entries ≡ p) → (if t then e ∷ own_entries whose who entries else own_entries whose who entries) ≡ [] → presence_from who (if t then presence_after (kind_of e.event) p else p) entries ≡ p
    by true f g = cc
    by false f g = f g

pub in-behind : (who : ℕ) (seen between now : List Entry) → own_entries whose who between ≡ [] → now ≡ seen ++ between → is_here (presence_from who Away seen) ≡ true → is_here (presence_from who Away now) ≡ true
in-behind who seen between now others e here =
    ap (λ (h : List Entry). is_here (presence_from who Away h)) e ∙ ap is_here (presence-append who Away seen between ∙ presence-foreign who (presence_from who Away seen) between others) ∙ here

-- a seat of the desk `home`, with a pass and what its client was told
abbrev pub at_desk : Home Frame → PassView Entry Frame → Option ℕ → Seated
at_desk home pass told = desk_seat_of (record { home = home; pass = pass; first = []; told = told })

module _ (home : Home Frame) (b a : PassView Entry Frame) (told told' : Option ℕ) where
  -- more of the history was seen
  pub seat-sees : SeesMore whose b a → Sees given_by (at_desk home b told) (at_desk home a told')
  seat-sees s = record { between = s.begins.0; foreign = foreign given_by b.number s.begins.0 (none_between whose b.number a.seen b.seen s.begins s.own_entries); stands = s.begins.1 }

  pub seat-stays : SeesMore whose b a → a.number ≡ b.number → IsIn (at_desk home b told) → IsIn (at_desk home a told')
  seat-stays s same here =
      subst (λ (n : ℕ). is_here (presence_from n Away a.seen) ≡ true) (sym same)
      (in-behind b.number b.seen s.begins.0 a.seen (none_between whose b.number a.seen b.seen s.begins s.own_entries) s.begins.1 here)

  -- a move was taken
  pub seat-steps : (event : Event) (output : Output) → PassAdds whose (MoveAnswers home.frame) b a event output → Steps given_by (at_desk home b told) (at_desk home a told') event output
  seat-steps event output s = record {
    between = s.between;
    answers = s.answer.answers;
    foreign = foreign given_by b.number s.between s.others;
    stands = s.answer.stands;
    is = s.answer.is;
  }

  -- a move was refused
  pub refused-sees : (event : Event) (fault : StepFault) → PassRefuses whose (MoveAnswers home.frame) b a event fault → Sees given_by (at_desk home b told) (at_desk home a told')
  refused-sees event fault s = record { between = s.between; foreign = foreign given_by b.number s.between s.others; stands = s.seen }

  pub refused-stays : (event : Event) (fault : StepFault) → PassRefuses whose (MoveAnswers home.frame) b a event fault → a.number ≡ b.number → IsIn (at_desk home b told) → IsIn (at_desk home a told')
  refused-stays event fault s same here =
      subst (λ (n : ℕ). is_here (presence_from n Away a.seen) ≡ true) (sym same) (in-behind b.number b.seen s.between a.seen s.others s.seen here)

-- two looks are one
pub sees-twice : (a b c : PassView Entry Frame) → a.number ≡ b.number → SeesMore whose a b → SeesMore whose b c → SeesMore whose a c
sees-twice a b c same first second = record {
  begins = starts_through c.seen b.seen a.seen second.begins first.begins;
  own_entries = subst (λ (n : ℕ). own_entries whose n c.seen ≡ own_entries whose n b.seen) (sym same) second.own_entries ∙ first.own_entries;
  mark = met_through a.mark b.mark c.mark first.mark second.mark;
}

-- what the client has missed behind its own event
pub missed-own : (limit : ℕ) (before : List Entry) (mark : Option ℕ) (who : ℕ) (event : Event) (output : Output) (after : List Entry) (marked : Option ℕ) → TakesMove limit before mark who event output after marked → missed_behind (kind_of event) ≡ has_missed who after
missed-own limit before mark who event output after marked t = by (is_leave event) (is_drawing event) refl refl ∙ sym (ap (has_missed who) t.stands)
  where
    now : List Entry
    now = before ++ entry_with who event t.answers ∷ []

    here : is_leave event ≡ false → is_here (presence_from who Away now) ≡ true
    here l = ap (λ (h : List Entry). is_here (presence_from who Away h)) (sym t.stands) ∙ t.here l

    left : (kind : Kind) → is_going kind ≡ true → (p : Presence) → is_here (presence_after kind p) ≡ false
    left Going l p = refl
    left Coming l p = cc
    left Doing l p = cc
    left Drawing l p = cc

    away : is_leave event ≡ true → is_here (presence_from who Away now) ≡ false
    away l = ap is_here (presence-append who Away before (entry_with who event t.answers ∷ [])) ∙ ap (λ (m : Bool). is_here (if m then presence_after (kind_of event) (presence_from who Away before) else presence_from who Away before)) (eq-eqb who who refl) ∙ left (kind_of event) l (presence_from who Away before)

    by : (l d : Bool) → is_leave event ≡ l → is_drawing event ≡ d → (not d && not l) ≡ (is_here (presence_from who Away now) && has_news who now)
    by true d e f = and-not d ∙ sym (ap (λ (p : Bool). p && has_news who now) (away e))
      where
        and-not : (d : Bool) → (not d && false) ≡ false
        and-not true = refl
        and-not false = refl
    by false true e f = sym (ap (λ (p : Bool). p && has_news who now) (here e) ∙ news-drawn who before (entry_with who event t.answers) f (eq-eqb who who refl))
    by false false e f = sym (ap (λ (p : Bool). p && has_news who now) (here e) ∙ news-new who before (entry_with who event t.answers) f)

-- what a pass had seen at first stands in front of what it has seen: behind a move that was taken, or refused, and behind a look
pub begins-taken : (home : Home Frame) (b a : PassView Entry Frame) (first : List Entry) (event : Event) (output : Output) → PassAdds whose (MoveAnswers home.frame) b a event output → Begins b.seen first → Begins a.seen first
begins-taken home b a first event output s begins =
    starts_through a.seen (b.seen ++ s.between) first (s.entry ∷ [], s.seen) (starts_through (b.seen ++ s.between) b.seen first (s.between, refl) begins)

pub begins-refused : (home : Home Frame) (b a : PassView Entry Frame) (first : List Entry) (event : Event) (fault : StepFault) → PassRefuses whose (MoveAnswers home.frame) b a event fault → Begins b.seen first → Begins a.seen first
begins-refused home b a first event fault s begins = starts_through a.seen b.seen first (s.between, s.seen) begins

-- a seat that was made
pub desk_new : (home : Home Frame) (pass : PassView Entry Frame) → IsOf pass.place home → IsAtDesk home pass pass.seen None None
desk_new home pass own = record { own = own; met = inl refl; known = tt; begins = starts_itself pass.seen }

-- behind a look the pass is of the desk still, where the client was told the mark that was met, and what it has missed
pub desk_seen : (home : Home Frame) (b a : PassView Entry Frame) (first : List Entry) (told told' : Option ℕ) (missed missed' : Option Bool) → IsAtDesk home b first told missed → IsSamePass b a → SeesMore whose b a → Met told' a.mark → IfSome missed' (λ m. m ≡ has_missed a.number a.seen)
    → IsAtDesk home a first told' missed'
desk_seen home b a first told told' missed missed' at same s met known = record {
  own = subst (λ (p : DeskPlace Frame). IsOf p home) (sym same.place) at.own;
  met = met;
  known = known;
  begins = starts_through a.seen b.seen first s.begins at.begins;
}

-- the same behind two looks
pub desk_looked : (home : Home Frame) (b m a : PassView Entry Frame) (first : List Entry) (told told' : Option ℕ) (missed missed' : Option Bool) → IsAtDesk home b first told missed → IsSamePass b m → SeesMore whose b m → IsSamePass m a → SeesMore whose m a → Met told' a.mark → IfSome missed' (λ k. k ≡ has_missed a.number a.seen)
    → IsAtDesk home a first told' missed'
desk_looked home b m a first told told' missed missed' at same s same' t met known = record {
  own = subst (λ (p : DeskPlace Frame). IsOf p home) (sym (same'.place ∙ same.place)) at.own;
  met = met;
  known = known;
  begins = starts_through a.seen m.seen first t.begins (starts_through m.seen b.seen first s.begins at.begins);
}

-- and where nothing came, what the client has missed is the same
pub desk_glanced : (home : Home Frame) (b a : PassView Entry Frame) (first : List Entry) (told : Option ℕ) (missed : Option Bool) → IsAtDesk home b first told missed → IsSamePass b a → SeesMore whose b a → length a.seen ≡ length b.seen → IsAtDesk home a first told missed
desk_glanced home b a first told missed at same s count =
    desk_seen home b a first told told missed missed at same s (met_through told b.mark a.mark at.met s.mark)
    (subst (λ (n : ℕ). IfSome missed (λ m. m ≡ has_missed n a.seen)) (sym same.number) (subst (λ (h : List Entry). IfSome missed (λ m. m ≡ has_missed b.number h)) (sym nothing) at.known))
  where
    empty : (rest : List Entry) → length rest ≡ 0 → rest ≡ []
    empty [] e = refl
    empty (x ∷ rest) e = absurd (omega (arith, e))

    none : s.begins.0 ≡ []
    none = let both = ap length s.begins.1 ∙ length-append b.seen s.begins.0 in empty s.begins.0 (omega (arith, count, both))

    nothing : a.seen ≡ b.seen
    nothing = s.begins.1 ∙ ap (λ (rest : List Entry). b.seen ++ rest) none ∙ append-nil b.seen

-- for the looks of a seat
pub ruleset looking = (desk_seen, desk_looked, desk_glanced)

-- behind a move that was taken, the pass is of the desk still, and it is known whether its client has missed something
pub desk-taken : (home : Home Frame) (b a : PassView Entry Frame) (first : List Entry) (told : Option ℕ) (event : Event) (output : Output) (missed : Bool) {old : Option Bool} → IsAtDesk home b first told old → IsSamePass b a → PassAdds whose (MoveAnswers home.frame) b a event output → missed ≡ missed_behind (kind_of event)
    → IsAtDesk home a first told (Some missed)
desk-taken home b a first told event output missed at same s m = record {
  own = subst (λ (p : DeskPlace Frame). IsOf p home) (sym same.place) at.own;
  met = inl (⊎_elim (λ (e : told ≡ None). e) (λ (e : told ≡ b.mark). e ∙ s.unmarked.0) at.met);
  known = m ∙ missed-own home.frame.limit (b.seen ++ s.between) None b.number event output a.seen None s.answer ∙ ap (λ (n : ℕ). has_missed n a.seen) (sym same.number);
  begins = begins-taken home b a first event output s at.begins;
}
