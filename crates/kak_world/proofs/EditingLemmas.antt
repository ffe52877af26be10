-- A buffer after an edit or a move in its history, as the code keeps it.
use Rattle.std.proofs.Common.{◌≡◌, ℕ, suc, Bool, true, false, List, [], ◌∷◌, length, map, take, refl, sym, ap, subst, ◌∙◌, arith, inl, inr, take_all, None, Ok, Err}
use Rattle.std.specs.Prelude.{◌⊎◌, OnOk, OnErr, IfErr, IsErrOf}
use Rattle.std.specs.declared.result.Result.{Result}
use Rattle.text_model.specs.declared.coords.Shift.{Shift}
use Rattle.text_model.specs.Changes.{Change, Insertion, Erasure, changed, all_changed, move_of, IsChangeInside, IsShift}
use Rattle.text_model.proofs.ChangeLemmas.{move_of-change}
use Rattle.undo_model.specs.Steps.{AreSteps}
use Rattle.tables.specs.Tables.{first_where}
use Rattle.tables.proofs.RowLemmas.{changed-same, changed-stays}
use Rattle.undo_model.specs.declared.travel.Travel.{Travel}
use Rattle.undo_model.specs.Stories.{Story, edited, committed}
use Rattle.undo_model.specs.Moves.{target_of, gone_by, moved_by, move_changes, forgotten}
use Rattle.undo_model.specs.Marks.{left_by}
use Rattle.undo_model.specs.Kept.{IsStory}
use Rattle.undo_model.proofs.TreeLemmas.{Leads}
use Rattle.undo_model.proofs.MoveLemmas.{named-leads}
use Rattle.selection_set.specs.Listing.{Listed}
use Rattle.selection_set.specs.Held.{selected, IsHeld}
use Rattle.move_marks.specs.Marking.{IsLeftBy}
use Rattle.selection_map.specs.Catching.{AreShiftsOf}
use Rattle.buffer_store.specs.declared.errors.BufferError.{BufferError}
use Rattle.buffer_store.specs.declared.errors.BufferError.TheVariants as error
use Rattle.buffer_store.specs.declared.errors.MoveError.{MoveError}
use Rattle.buffer_store.specs.Stored.{shift_of, change_shifts}
use Rattle.buffer_store.specs.Buffers.{IsEdited, IsBroken}
use Rattle.buffer_store.proofs.PartLemmas.{edited-text}
use Rattle.list_shelf.specs.declared.holder.Holder.{Holder}
use Rattle.list_shelf.specs.Shelves.{Shelved, Held, is_held_by, list_moved, lists_in, entered, all_noted, all_moved, CanFollow, StandsWith, IsUp}
use Rattle.list_shelf.proofs.FollowLemmas.{all-noted-follows, all-moved-follows}
use Rattle.list_shelf.proofs.StandLemmas.{entered-stands}
use Rattle.list_shelf.proofs.UpLemmas.{up-entered, entered-trimmed}
use Rattle.kak_world.specs.declared.since.Since.{Since}
use Rattle.kak_world.specs.Flat.{Buffer, fresh_list, with_list}
use Rattle.kak_world.specs.Changing.{buffer_changed, buffer_edited, buffer_moved, buffer_traveled, broken_off, IsSomeEdited, IsSomeMoved}
use Rattle.kak_world.specs.Seen.{KeptBuffer, buffer_seen, buffer_kept, IsShelfOf, and_then}
use Rattle.kak_world.proofs.AnswerLemmas.{either, error-of, ok-err, ok-as}
use Rattle.kak_world.proofs.ListLemmas.{Got}

-- the shift of a change describes it
shift-fits : (text : List ℕ) (c : Change) → IsChangeInside text c → IsShift text (changed text c) (shift_of text c) (move_of text c)
shift-fits text (Insertion p s) i = record { insert_is = refl; change = move_of-change text (Insertion p s) i; begin_is = refl; end_is = refl; last_offset = refl; last_is = refl }
shift-fits text (Erasure p q) i = record { insert_is = refl; change = move_of-change text (Erasure p q) i; begin_is = refl; end_is = refl; last_offset = refl; last_is = refl }

-- and so for steps, one after another
pub steps-shifts : (text : List ℕ) (cs : List Change) → AreSteps text cs → AreShiftsOf text cs (change_shifts text cs)
steps-shifts text [] s = tt
steps-shifts text (c ∷ cs) s = (s.0.stored, shift-fits text c s.0.inside, steps-shifts (changed text c) cs s.1)

-- a shelf can follow changes whose shifts these are
pub can-follow : (text : List ℕ) (cs : List Change) (shifts given : List Shift) (shelf : Shelved) → AreSteps text cs → shifts ≡ change_shifts text cs → given ≡ shifts → IsShelfOf text shelf → CanFollow shelf given
can-follow text cs shifts given shelf steps e g st = record { text = text; changes = cs; shifts_are = subst (AreShiftsOf text cs) (sym (g ∙ e)) (steps-shifts text cs steps); stands = st.stands }

-- a shelf that has followed changes of its text which a holder made
pub record HasFollowed (holder : Holder) (text : List ℕ) (cs : List Change) (old new : Shelved) : Type 0 where
  pub got : Got (all_changed text cs) (map (list_moved text cs) (lists_in text old)) new
  pub up : IsUp holder new

then-entered : (holder : Holder) (text : List ℕ) (cs : List Change) (old mid new : Shelved) → StandsWith (all_changed text cs) mid (map (list_moved text cs) (lists_in text old)) → new ≡ entered holder mid → HasFollowed holder text cs old new
then-entered holder text cs old mid new st e =
    let t : List ℕ = all_changed text cs in
    let now = entered-stands t holder mid st.stands in
    subst (HasFollowed holder text cs old) (sym e) (record {
      got = record { is = record { stands = now.stands; trimmed = entered-trimmed t holder mid st.stands }; lists_are = now.lists_are ∙ st.lists_are };
      up = (up-entered t holder mid st.stands).1;
    })

-- so it is, whether the shifts were noted or not
pub has-followed : {E : Type 0} (r : Result (Unit {0}) E) (holder : Holder) (text : List ℕ) (cs : List Change) (shifts given : List Shift) (old new : Shelved) → OnOk r (new ≡ entered holder (all_noted given old)) → OnErr r (new ≡ entered holder (all_moved given old))
    → AreSteps text cs → shifts ≡ change_shifts text cs → given ≡ shifts → IsShelfOf text old → HasFollowed holder text cs old new
has-followed (Ok x) holder text cs shifts given old new ok err steps e g st =
    then-entered holder text cs old (all_noted given old) new (all-noted-follows text cs given old (subst (AreShiftsOf text cs) (sym (g ∙ e)) (steps-shifts text cs steps)) st.stands) ok
has-followed (Err x) holder text cs shifts given old new ok err steps e g st =
    then-entered holder text cs old (all_moved given old) new (all-moved-follows text cs given old (subst (AreShiftsOf text cs) (sym (g ∙ e)) (steps-shifts text cs steps)) st.stands) err

-- two answers, the second of which may be want of memory
pub both-ok : {E A : Type 0} {P Q R : Type 0} (w : E) (d : Result (Unit {0}) E) (n : Result (Unit {0}) A) (r : Result (Unit {0}) E) → r ≡ and_then w d n → OnOk d P → OnOk n Q → (P → Q → R) → OnOk r R
both-ok w (Ok x) (Ok y) r e p q f = ok-as _ r (Ok x) e (f p q)
both-ok w (Ok x) (Err y) r e p q f = ok-as _ r (Err w) e tt
both-ok w (Err x) n r e p q f = ok-as _ r (Err x) e tt

-- the buffer, when its lists have followed
moved-buffer : {si : Since} (name : List ℕ) (file : Bool) (story new : Story) (cs : List Change) (shelf now : Shelved) (b : KeptBuffer) → buffer_kept name file story shelf si ≡ b → new.text ≡ all_changed story.text cs → lists_in (all_changed story.text cs) now ≡ map (list_moved story.text cs) (lists_in story.text shelf)
    → buffer_seen name file new now ≡ buffer_changed cs new b.seen
moved-buffer {si = si} name file story new cs shelf now b e t l =
    ap (λ x. let y : Buffer = record { name = name; is_file = file; story = new; lists = lists_in x now } in y) t
    ∙ ap (λ ls. let x : Buffer = record { name = name; is_file = file; story = new; lists = ls } in x) l
    ∙ ap (λ (x : KeptBuffer). buffer_changed cs new x.seen) e

-- the shelf after an edit is that of its text
pub edited-is : (holder : Holder) (who : ℕ) (cs : List Change) (r : Result (Unit {0}) BufferError) (old new : Story) (shifts : List Shift) (shelf now : Shelved) → (e : IsEdited who cs r old new shifts) → HasFollowed holder old.text (take e.made cs) shelf now → IsShelfOf new.text now
edited-is holder who cs r old new shifts shelf now e f =
    subst (λ t. IsShelfOf t now) (sym (ap (λ (s : Story). s.text) e.story ∙ edited-text who (take e.made cs) old)) f.got.is

pub edited-some : {si : Since} (name : List ℕ) (file : Bool) (holder : Holder) (who : ℕ) (cs : List Change) (r : Result (Unit {0}) BufferError) (old new : Story) (shifts : List Shift) (shelf now : Shelved) (b : KeptBuffer) → buffer_kept name file old shelf si ≡ b → (e : IsEdited who cs r old new shifts) → HasFollowed holder old.text (take e.made cs) shelf now
    → buffer_seen name file new now ≡ buffer_edited who (take e.made cs) b.seen
edited-some {si = si} name file holder who cs r old new shifts shelf now b s e f =
    ap (λ (x : Story). buffer_seen name file x now) e.story
    ∙ moved-buffer name file old (edited who (take e.made cs) old) (take e.made cs) shelf now b s (edited-text who (take e.made cs) old) f.got.lists_are
    ∙ ap (λ (x : KeptBuffer). buffer_changed (take e.made cs) (edited who (take e.made cs) x.seen.story) b.seen) s

pub edited-all : {si : Since} (name : List ℕ) (file : Bool) (holder : Holder) (who : ℕ) (cs : List Change) (r : Result (Unit {0}) BufferError) (old new : Story) (shifts : List Shift) (shelf now : Shelved) (b : KeptBuffer) → buffer_kept name file old shelf si ≡ b → (e : IsEdited who cs r old new shifts) → HasFollowed holder old.text (take e.made cs) shelf now
    → take e.made cs ≡ cs → buffer_seen name file new now ≡ buffer_edited who cs b.seen
edited-all {si = si} name file holder who cs r old new shifts shelf now b s e f all = edited-some name file holder who cs r old new shifts shelf now b s e f ∙ ap (λ ds. buffer_edited who ds b.seen) all

-- some of a client's changes, which are the same as others
pub some-of : (who : ℕ) (cs ds : List Change) (old new : Buffer) → cs ≡ ds → (made : ℕ) → new ≡ buffer_edited who (take made cs) old → IsSomeEdited who ds old new
some-of who cs ds old new e made is = record { made = made; is = is ∙ ap (λ x. buffer_edited who (take made x) old) e }

pub some-moved : (cs ds : List Change) (old new : Buffer) → cs ≡ ds → IsSomeMoved cs old new → IsSomeMoved ds old new
some-moved cs ds old new e m = subst (λ xs. IsSomeMoved xs old new) e m

map-same : (text : List ℕ) (hs : List Held) → map (list_moved text []) hs ≡ hs
map-same text [] = refl
map-same text (h ∷ hs) = ap (λ xs. h ∷ xs) (map-same text hs)

-- a buffer that was left as it was
pub left-alone : {si : Since} (name : List ℕ) (file : Bool) (holder : Holder) (old new : Story) (shelf now : Shelved) (b : KeptBuffer) → buffer_kept name file old shelf si ≡ b → new ≡ old → HasFollowed holder old.text [] shelf now → buffer_seen name file new now ≡ b.seen
left-alone {si = si} name file holder old new shelf now b s n f =
    ap (λ (x : Story). buffer_seen name file x now) n
    ∙ moved-buffer name file old old [] shelf now b s refl f.got.lists_are
    ∙ ap (λ (x : KeptBuffer). buffer_changed [] x.seen.story b.seen) s
    ∙ ap (λ ls. let x : Buffer = record { name = b.seen.name; is_file = b.seen.is_file; story = b.seen.story; lists = ls } in x) (map-same b.seen.story.text b.seen.lists)

-- a move was made, or some of its changes were, from the first on
pub record HasGone (cs : List Change) (old new : Story) (shifts : List Shift) : Type 0 where
  pub made : ℕ
  pub steps : AreSteps old.text (take made cs)
  pub text : new.text ≡ all_changed old.text (take made cs)
  pub shifts_are : shifts ≡ change_shifts old.text (take made cs)

pub has-gone : {T : Type 0} (r : Result T MoveError) (travel : Travel) (old new : Story) (shifts : List Shift) → IsStory old → OnOk r (new ≡ moved_by travel old) → OnOk r (shifts ≡ change_shifts old.text (move_changes travel old))
    → OnErr r (IsBroken (move_changes travel old) old new shifts) → HasGone (move_changes travel old) old new shifts
has-gone r travel old new shifts story ok told broken =
    let cs : List Change = move_changes travel old in
    let leads : Leads old.text (moved_by travel old).text cs = named-leads travel old story in
    let all : take (length cs) cs ≡ cs = take_all (length cs) cs (omega arith) in
    either r ok told broken
    (λ n e. record {
      made = length cs;
      steps = subst (AreSteps old.text) (sym all) leads.steps;
      text = ap (λ (x : Story). x.text) n ∙ sym leads.lead ∙ ap (all_changed old.text) (sym all);
      shifts_are = e ∙ ap (change_shifts old.text) (sym all);
    })
    (λ b. record { made = b.made; steps = b.steps; text = b.text; shifts_are = b.shifts_are })

pub gone-is : (holder : Holder) (cs : List Change) (old new : Story) (shifts : List Shift) (shelf now : Shelved) → (g : HasGone cs old new shifts) → HasFollowed holder old.text (take g.made cs) shelf now → IsShelfOf new.text now
gone-is holder cs old new shifts shelf now g f = subst (λ t. IsShelfOf t now) (sym g.text) f.got.is

-- the story of a move that was broken off
story-cut : (cs : List Change) (old new : Story) → new.text ≡ all_changed old.text cs → (((cs ≡ []) × (new ≡ committed old)) ⊎ (new ≡ forgotten new.text)) → (cs ≡ [] → new ≡ committed old) → new ≡ broken_off cs old
story-cut [] old new t k whole = whole refl
story-cut (c ∷ cs) old new t (inl none) whole = absurd (let e : suc (length cs) ≡ 0 = ap length none.0 in omega arith)
story-cut (c ∷ cs) old new t (inr lost) whole = lost ∙ ap forgotten t

pub gone-some : {si : Since} (name : List ℕ) (file : Bool) (holder : Holder) (cs : List Change) (old new : Story) (shifts : List Shift) (shelf now : Shelved) (b : KeptBuffer) → buffer_kept name file old shelf si ≡ b → (g : IsBroken cs old new shifts) → HasFollowed holder old.text (take g.made cs) shelf now
    → IsSomeMoved cs b.seen (buffer_seen name file new now)
gone-some {si = si} name file holder cs old new shifts shelf now b s g f = record {
  made = g.made;
  is = moved-buffer name file old new (take g.made cs) shelf now b s g.text f.got.lists_are
      ∙ ap (λ (x : Story). buffer_changed (take g.made cs) x b.seen) (story-cut (take g.made cs) old new g.text g.story g.whole)
      ∙ ap (λ (x : KeptBuffer). buffer_changed (take g.made cs) (broken_off (take g.made cs) x.seen.story) b.seen) s;
}

-- a move that was made, as the buffer is then
pub gone-moved : {si : Since} (name : List ℕ) (file : Bool) (holder : Holder) (travel : Travel) (old new : Story) (shelf now : Shelved) (b : KeptBuffer) → buffer_kept name file old shelf si ≡ b → IsStory old → new ≡ moved_by travel old → HasFollowed holder old.text (move_changes travel old) shelf now
    → buffer_seen name file new now ≡ buffer_moved travel b.seen
gone-moved {si = si} name file holder travel old new shelf now b s story n f =
    let leads : Leads old.text (moved_by travel old).text (move_changes travel old) = named-leads travel old story in
    ap (λ (x : Story). buffer_seen name file x now) n
    ∙ moved-buffer name file old (moved_by travel old) (move_changes travel old) shelf now b s (sym leads.lead) f.got.lists_are
    ∙ ap (λ (x : KeptBuffer). buffer_changed (move_changes travel x.seen.story) (moved_by travel x.seen.story) b.seen) s

-- the holder's list then
pub gone-left : (holder : Holder) (travel : Travel) (text : List ℕ) (list : Listed) (b b' to : Buffer) → b' ≡ buffer_moved travel b → IsLeftBy b.story.text (move_changes travel b.story) list → text ≡ all_changed b.story.text (move_changes travel b.story) → to ≡ with_list holder (λ held. record held { sels = selected text list }) b' → to ≡ buffer_traveled holder travel b
gone-left holder travel text list b b' to m left t e =
    let cs : List Change = move_changes travel b.story in
    let moved : Buffer = buffer_moved travel b in
    e
    ∙ ap (with_list holder (λ held. record held { sels = selected text list })) m
    ∙ ap (λ x. with_list holder (λ held. record held { sels = selected x list }) moved) t
    ∙ ap (λ ls. let x : Buffer = record { name = moved.name; is_file = moved.is_file; story = moved.story; lists = ls } in x)
    (changed-same (is_held_by holder) (λ held. record held { sels = selected (all_changed b.story.text cs) list }) (λ held. record held { sels = left_by b.story.text cs held.sels }) (fresh_list holder) moved.lists
    (let h : Held = first_where (is_held_by holder) (fresh_list holder) moved.lists in ap (λ s. let x : Held = record { holder = h.holder; sels = s; corner = h.corner } in x) (left.left h.sels)))

pub gone-without : (holder : Holder) (travel : Travel) (b to : Buffer) → to ≡ buffer_moved travel b → move_changes travel b.story ≡ [] → to ≡ buffer_traveled holder travel b
gone-without holder travel b to m none =
    let moved : Buffer = buffer_moved travel b in
    m
    ∙ sym (ap (λ ls. let x : Buffer = record { name = moved.name; is_file = moved.is_file; story = moved.story; lists = ls } in x)
    (changed-stays (is_held_by holder) (λ held. record held { sels = left_by b.story.text (move_changes travel b.story) held.sels }) (fresh_list holder) moved.lists
    (let h : Held = first_where (is_held_by holder) (fresh_list holder) moved.lists in ap (λ cs. let x : Held = record { holder = h.holder; sels = left_by b.story.text cs h.sels; corner = h.corner } in x) none)))

-- the lists have followed a whole move
pub gone-moves : {E : Type 0} (r : Result (Unit {0}) E) (holder : Holder) (travel : Travel) (old : Story) (shifts given : List Shift) (shelf now : Shelved) → OnOk r (now ≡ entered holder (all_noted given shelf)) → OnErr r (now ≡ entered holder (all_moved given shelf))
    → IsStory old → shifts ≡ change_shifts old.text (move_changes travel old) → given ≡ shifts → IsShelfOf old.text shelf → HasFollowed holder old.text (move_changes travel old) shelf now
gone-moves r holder travel old shifts given shelf now ok err story e g st =
    let leads : Leads old.text (moved_by travel old).text (move_changes travel old) = named-leads travel old story in
    has-followed r holder old.text (move_changes travel old) shifts given shelf now ok err leads.steps e g st

pub gone-text : (travel : Travel) (old new : Story) → IsStory old → new ≡ moved_by travel old → new.text ≡ all_changed old.text (move_changes travel old)
gone-text travel old new story n = let leads : Leads old.text (moved_by travel old).text (move_changes travel old) = named-leads travel old story in ap (λ (x : Story). x.text) n ∙ sym leads.lead

pub gone-list_held : (travel : Travel) (old new : Story) (list : Listed) → IsStory old → new ≡ moved_by travel old → IsLeftBy old.text (move_changes travel old) list → IsHeld new.text list
gone-list_held travel old new list story n left = subst (λ t. IsHeld t list) (sym (gone-text travel old new story n)) left.held

-- a move that leads nowhere changes nothing
pub gone-nowhere : (travel : Travel) (s : Story) → target_of travel s ≡ None → move_changes travel s ≡ []
gone-nowhere travel s none = ap (λ o. gone_by o s) none

-- an answer that is well but for want of memory
pub wanting-only : {E A : Type 0} (Q : E → Type 0) (w : E) (n : Result (Unit {0}) A) (r : Result (Unit {0}) E) → r ≡ and_then w (Ok tt) n → IfErr r (λ e. (e ≡ w) ⊎ Q e)
wanting-only Q w (Ok x) r e = subst (λ z. IfErr z (λ x. (x ≡ w) ⊎ Q x)) (sym e) tt
wanting-only Q w (Err x) r e = subst (λ z. IfErr z (λ x. (x ≡ w) ⊎ Q x)) (sym e) (inl refl)

-- an error of the two answers that isn't want of memory is the first one's
pub both-from : {E A : Type 0} (w : E) (d : Result (Unit {0}) E) (n : Result (Unit {0}) A) (r : Result (Unit {0}) E) (x : E) → r ≡ and_then w d n → (w ≡ x → ⊥) → IsErrOf r x → IsErrOf d x
both-from w (Ok u) (Ok v) r x e other h = absurd (ok-err u x (sym e ∙ h))
both-from w (Ok u) (Err v) r x e other h = absurd (other (ap (error-of w) (sym e ∙ h)))
both-from w (Err y) n r x e other h = sym e ∙ h

pub both-to : {E A : Type 0} (w : E) (d : Result (Unit {0}) E) (n : Result (Unit {0}) A) (r : Result (Unit {0}) E) (x : E) → r ≡ and_then w d n → IsErrOf d x → IsErrOf r x
both-to w (Ok u) n r x e h = absurd (ok-err u x h)
both-to w (Err y) n r x e h = e ∙ h

abbrev is-undo_full : BufferError → Bool
is-undo_full error.UndoFull = true
is-undo_full error.TextFull = false
is-undo_full error.NoMemory = false

abbrev is-text_full : BufferError → Bool
is-text_full error.UndoFull = false
is-text_full error.TextFull = true
is-text_full error.NoMemory = false

pub not-undo_full : error.NoMemory ≡ error.UndoFull → ⊥
not-undo_full e = let no : false ≡ true = ap is-undo_full e in cc

pub not-text_full : error.NoMemory ≡ error.TextFull → ⊥
not-text_full e = let no : false ≡ true = ap is-text_full e in cc
