-- Buffers that stand as a world keeps them, when one of them was changed.
use Rattle.std.proofs.Common.{◌≡◌, ℕ, Bool, true, false, List, [], ◌∷◌, ◌++◌, not, map, set, get_or, refl, sym, ap, subst, ◌∙◌, None, Some}
use Rattle.std.specs.List.{AllByRecursion, filter}
use Rattle.std.proofs.lemmas.Bool.{eq-eqb}
use Rattle.std.specs.Prelude.{option_map, slice_index_or}
use Rattle.std.specs.declared.option.Option.{Option}
use Rattle.list_shelf.specs.declared.holder.Holder.TheVariants.{Of}
use Rattle.list_shelf.specs.Shelves.{IsUp, KeepsUp}
use Rattle.tables.specs.Tables.{first_where, changed_where}
use Rattle.tables.proofs.RowLemmas.{first-kept, any-changed}
use Rattle.kak_world.specs.declared.own.Own.{Own}
use Rattle.kak_world.specs.declared.clients.Client.{Client}
use Rattle.kak_world.specs.Flat.{Buffer, is_of, is_here, newcomer, is_turn_of, least_free, numbers_of}
use Rattle.kak_world.specs.Stored.{Began, IsTurnAtMost, nothing_since}
use Rattle.kak_world.specs.Seen.{KeptBuffer, with_seen, slot_seen, all_seen, HasBuffer, AreQuiet, SlotIsUp, TurnIsUp, IsInStep, AreCalm, BuffersStand}
use Rattle.kak_world.proofs.WorldLemmas.{has-set, has-mapped, without-new}
use Rattle.kak_world.proofs.ShowingLemmas.{set-slot, has-changed_to}
use Rattle.kak_world.proofs.CalmLemmas.{calm-set, calm-put, calm-slot, with-calm, mapped-calm}
use Rattle.kak_world.proofs.StoredLemmas.{Follows, in-step, follows-all, leave-same, leave-set, with-leaves, mapped-leaves}
use Rattle.kak_world.proofs.QuietLemmas.{still-quiet}
use Rattle.kak_world.proofs.KeptLemmas.{seen-set, seen-is, seen-at, seen-mapped, slot-changed_by, set-keeps, slot-keeps, with-keeps, mapped-keeps, turn-keeps, turn-is, nobody-up, one-up, set-up}

-- where something may be pending
pub stands-pending : {began : Option Began} (turn : Option ℕ) (cs : List Client) (bs : List (Option KeptBuffer)) → HasBuffer (all_seen bs) → TurnIsUp turn cs bs → IsInStep began turn bs → BuffersStand began true true turn cs bs
stands-pending turn cs bs h up st = record { has = h; quiet = λ e. absurd (let both : true ≡ false = e in cc); calm = λ e. absurd (let both : true ≡ false = e in cc); up = up; step = st }

-- a list or a window was changed
pub stands-set : {began : Option Began} {differ : Bool} (pending : Bool) (turn : Option ℕ) (cs : List Client) (bs : List (Option KeptBuffer)) (n : ℕ) (b to : KeptBuffer) → get_or bs n None ≡ Some b → to.seen.story ≡ b.seen.story → KeepsUp b.shelf to.shelf → Follows began turn turn bs (set bs n (Some to)) → to.since ≡ b.since → BuffersStand began pending differ turn cs bs → BuffersStand began pending differ turn cs (set bs n (Some to))
stands-set {began = began} pending turn cs bs n b to g s k f i h = record {
  calm = λ e. calm-set n b to bs g i (h.calm e);
  has = subst HasBuffer (sym (seen-set bs n (Some to))) (has-set n b.seen to.seen (all_seen bs) (seen-is bs n b g) h.has);
  quiet = λ e. subst AreQuiet (sym (seen-set bs n (Some to))) (still-quiet n b.seen to.seen (all_seen bs) (seen-is bs n b g) s (h.quiet e));
  up = turn-keeps turn cs bs (set bs n (Some to)) (set-keeps n b to bs g k) h.up;
  step = in-step began turn turn bs (set bs n (Some to)) f h.step;
}

-- the text was changed by the client whose turn it is
pub stands-edited : {began : Option Began} {differ now : Bool} (pending : Bool) (who : ℕ) (turn : Option ℕ) (cs : List Client) (bs : List (Option KeptBuffer)) (c : Client) (b to : KeptBuffer) → is_turn_of who turn ≡ true → c ≡ first_where (is_of who) (newcomer who 0 0) cs → get_or bs c.shown None ≡ Some b → IsUp (Of who) to.shelf
    → Follows began turn turn bs (set bs c.shown (Some to)) → (now ≡ false → (differ ≡ false) × (to.since ≡ nothing_since)) → BuffersStand began pending differ turn cs bs → BuffersStand began true now turn cs (set bs c.shown (Some to))
stands-edited {began = began} pending who turn cs bs c b to t f g up l d h = record {
  has = subst HasBuffer (sym (seen-set bs c.shown (Some to))) (has-set c.shown b.seen to.seen (all_seen bs) (seen-is bs c.shown b g) h.has);
  quiet = λ e. absurd (let both : true ≡ false = e in cc);
  calm = λ e. let q = d e in calm-put c.shown to bs q.1 (h.calm q.0);
  up = one-up who turn cs (set bs c.shown (Some to)) c (turn-is who turn t) f (set-up (Of who) c.shown (Some to) bs up);
  step = in-step began turn turn bs (set bs c.shown (Some to)) l h.step;
}

-- a buffer is seen otherwise, where there is one
pub stands-seen : {began : Option Began} {differ : Bool} (pending : Bool) (turn : Option ℕ) (cs : List Client) (bs : List (Option KeptBuffer)) (n : ℕ) (slot to : Option KeptBuffer) (f : Buffer → Buffer) → slot ≡ get_or bs n slot → to ≡ option_map (with_seen f) slot → BuffersStand began pending differ turn cs bs
    → BuffersStand began true differ turn cs (set bs n to)
stands-seen {began = began} pending turn cs bs n slot to f g e h = record {
  has = has-changed_to n f (all_seen bs) (all_seen (set bs n to)) (seen-set bs n to ∙ set-slot n f (all_seen bs) (slot_seen slot) (slot_seen to) (seen-at bs n slot g) (slot-changed_by f slot to e)) h.has;
  quiet = λ q. absurd (let both : true ≡ false = q in cc);
  calm = λ q. calm-slot n slot to bs g (λ c. with-calm f slot to e c) (h.calm q);
  up = turn-keeps turn cs bs (set bs n to) (slot-keeps n slot to bs g (with-keeps f slot to e)) h.up;
  step = in-step began turn turn bs (set bs n to) (follows-all began turn bs (set bs n to) (λ k. leave-set (Of k) n slot to bs g (with-leaves (Of k) f slot to e))) h.step;
}

-- all buffers are seen otherwise
pub stands-mapped : {began : Option Began} {differ : Bool} (was pending : Bool) (turn : Option ℕ) (cs : List Client) (bs now : List (Option KeptBuffer)) (f : Buffer → Buffer) → now ≡ map (option_map (with_seen f)) bs → (pending ≡ false → AreQuiet (all_seen now)) → BuffersStand began was differ turn cs bs → BuffersStand began pending differ turn cs now
stands-mapped {began = began} was pending turn cs bs now f e q h = record {
  calm = λ z. mapped-calm f bs now e (h.calm z);
  has = has-mapped f (all_seen bs) (all_seen now) h.has (seen-mapped f bs now e);
  quiet = q;
  up = turn-keeps turn cs bs now (mapped-keeps f bs now e) h.up;
  step = in-step began turn turn bs now (follows-all began turn bs now (λ k. mapped-leaves (Of k) f bs now e)) h.step;
}

-- a client that came went again
pub came-not-up : (who : ℕ) (turn : Option ℕ) (bs now : List (Option KeptBuffer)) (cs added left : List Client) (n : ℕ) → is_here who cs ≡ false → now ≡ bs → added ≡ cs ++ newcomer who (least_free (numbers_of cs)) n ∷ [] → left ≡ filter (λ c. not (is_of who c)) added
    → TurnIsUp turn cs bs → TurnIsUp turn left now
came-not-up who turn bs now cs added left n away b a l up =
    let same : left ≡ cs = l ∙ ap (filter (λ c. not (is_of who c))) a ∙ without-new who (newcomer who (least_free (numbers_of cs)) n) cs away (eq-eqb who who refl) in
    subst (λ xs. TurnIsUp turn xs now) (sym same) (subst (TurnIsUp turn cs) (sym b) up)

-- between steps it is nobody's turn
pub stands-nobody : {began : Option Began} {differ : Bool} (pending : Bool) (turn now : Option ℕ) (cs : List Client) (bs : List (Option KeptBuffer)) → now ≡ None → BuffersStand began pending differ turn cs bs → BuffersStand began pending differ now cs bs
stands-nobody {began = began} pending turn now cs bs e h = record { has = h.has; quiet = h.quiet; calm = h.calm; up = nobody-up now cs bs e; step = in-step began turn now bs bs (λ b s t. (subst (IsTurnAtMost b.who) (sym e) tt, leave-same (Of b.who) bs)) h.step }

-- lists were brought up to date, and all is seen as it was
pub stands-entered : {began : Option Began} {differ : Bool} (pending : Bool) (turn next : Option ℕ) (cs : List Client) (bs now : List (Option KeptBuffer)) → all_seen now ≡ all_seen bs → TurnIsUp next cs now → Follows began turn next bs now → (AreCalm bs → AreCalm now) → BuffersStand began pending differ turn cs bs → BuffersStand began pending differ next cs now
stands-entered {began = began} pending turn next cs bs now e up f k h = record {
  calm = λ z. k (h.calm z);
  has = subst HasBuffer (sym e) h.has;
  quiet = λ q. subst AreQuiet (sym e) (h.quiet q);
  up = up;
  step = in-step began turn next bs now f h.step;
}

-- what holds of each buffer as it is kept holds of each as it is seen
pub all-seen : (P : Option Buffer → Type 0) (bs : List (Option KeptBuffer)) → AllByRecursion (λ slot. P (slot_seen slot)) bs → AllByRecursion P (all_seen bs)
all-seen P [] a = tt
all-seen P (b ∷ bs) a = (a.0, all-seen P bs a.1)

-- what is a client's own was changed
pub stands-own : {began : Option Began} {differ : Bool} (pending : Bool) (turn : Option ℕ) (cs : List Client) (bs : List (Option KeptBuffer)) (who : ℕ) (o : Own) → BuffersStand began pending differ turn cs bs → BuffersStand began pending differ turn (changed_where (is_of who) (λ c. record c { own = o }) cs) bs
stands-own pending turn cs bs who o h =
    let f : Client → Client = λ c. record c { own = o } in
    record {
      has = h.has;
      quiet = h.quiet;
      calm = h.calm;
      step = h.step;
      up = λ k e here.
          subst (λ n. SlotIsUp (Of k) (slice_index_or bs n None)) (sym (first-kept (is_of who) (is_of k) f (λ c. c.shown) (newcomer k 0 0) cs (λ c. refl) (λ c. refl)))
          (h.up k e (sym (any-changed (is_of who) (is_of k) f cs (λ c. refl)) ∙ here));
    }
