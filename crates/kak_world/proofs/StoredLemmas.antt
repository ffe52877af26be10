-- What is stored of the lists of others stays through the calls of a world.
use Rattle.std.proofs.Common.{◌≡◌, ℕ, zero, suc, Bool, true, false, List, [], ◌∷◌, ◌++◌, length, map, get_or, set, refl, sym, ap, subst, ◌∙◌, inl, inr, None, Some}
use Rattle.std.specs.Prelude.{◌&&◌, ◌⊎◌, option_map, slice_index_or, is_ok, IsOk, OnOk, Ok, Err}
use Rattle.std.specs.declared.option.Option.{Option}
use Rattle.std.specs.declared.result.Result.{Result}
use Rattle.std.proofs.lemmas.Bool.{eqb-true}
use Rattle.list_shelf.specs.declared.holder.Holder.{Holder}
use Rattle.list_shelf.specs.declared.holder.Holder.TheVariants.{Of}
use Rattle.text_model.specs.declared.coords.Shift.{Shift}
use Rattle.text_model.specs.Changes.{Change, changed}
use Rattle.undo_model.specs.declared.travel.Travel.{Travel}
use Rattle.undo_model.specs.Stories.{Story}
use Rattle.undo_model.specs.Moves.{move_changes}
use Rattle.buffer_store.specs.Stored.{change_shifts}
use Rattle.selection_set.specs.Listing.{Listed}
use Rattle.change_list.specs.Logs.{stamp_of}
use Rattle.window_view.specs.declared.corner.Corner.{Corner}
use Rattle.list_shelf.specs.Shelves.{same_holder, Shelved, has_row, LeavesRow, LeavesRows, has_room, with_sels, with_main, with_corner, unlisted, entered, all_noted, trimmed_shelf}
use Rattle.list_shelf.proofs.StayLemmas.{row-stays, row-after, by-rows, lag-leaves, corner-leaves, entered-leaves, unlisted-leaves, added-leaves, noted-leaves}
use Rattle.kak_world.specs.declared.since.Since.{Since}
use Rattle.kak_world.specs.declared.clients.Client.{Client}
use Rattle.kak_world.specs.declared.world.Rest.{Rest}
use Rattle.kak_world.specs.Flat.{Buffer, Scoped, is_turn_of}
use Rattle.kak_world.specs.Stored.{Stored, Began, IsStepOf, IsTurnAtMost, since_behind, is_nobody, LeavesBut, Leaves, LeavesSlot, LeavesOthersOf, LeavesSince}
use Rattle.kak_world.specs.Seen.{Kept, KeptBuffer, buffer_kept, begun_in, with_seen, stored_of, all_stored, slot_seen, all_seen, SlotLeaves, AllLeave, HasBuffer, AreQuiet, IsInStep, BuffersStand, IsListedBy, and_then}
use Rattle.kak_world.proofs.WorldLemmas.{parts}
use Rattle.kak_world.proofs.CalmLemmas.{begun-calm}
use Rattle.kak_world.proofs.KeptLemmas.{nobody-up}

-- one buffer

pub but-same : (mine : Holder → Bool) (a : Stored) → LeavesBut mine a a
but-same mine a = record { since = refl; rows = λ other _ has. row-stays other a.shelf has }

but-after : (mine : Holder → Bool) (a b c : Stored) → LeavesBut mine a b → LeavesBut mine b c → LeavesBut mine a c
but-after mine a b c f g = record {
  since = g.since ∙ f.since;
  rows = λ other apart has. let first = f.rows other apart has in row-after other a.shelf b.shelf c.shelf first (g.rows other apart first.there);
}

pub nobody-leaves : (mine : Holder → Bool) (a b : Stored) → LeavesBut is_nobody a b → LeavesBut mine a b
nobody-leaves mine a b f = record { since = f.since; rows = λ other _ has. f.rows other refl has }

leaves-after : (holder : Holder) (a b c : Stored) → Leaves holder a b → Leaves holder b c → Leaves holder a c
leaves-after holder a b c f g new again =
    let last = g new again in
    but-after (same_holder holder) a b c (f (ap (λ (s : Since). s.is_new) (sym last.since) ∙ new) (ap (λ (s : Since). s.began_again) (sym last.since) ∙ again)) last

-- a slot

pub slot-same : (holder : Holder) (slot : Option KeptBuffer) → SlotLeaves holder slot slot
slot-same holder None = tt
slot-same holder (Some b) = λ _ _. but-same (same_holder holder) (stored_of b)

slot-after : (holder : Holder) (a b c : Option KeptBuffer) → SlotLeaves holder a b → SlotLeaves holder b c → SlotLeaves holder a c
slot-after holder a b None f g = tt
slot-after holder None None (Some c) f g = g
slot-after holder (Some a) None (Some c) f g = λ new again. absurd (g new again)
slot-after holder None (Some b) (Some c) f g = λ new again.
    let last = g new again in
    f (ap (λ (s : Since). s.is_new) (sym last.since) ∙ new) (ap (λ (s : Since). s.began_again) (sym last.since) ∙ again)
slot-after holder (Some a) (Some b) (Some c) f g = leaves-after holder (stored_of a) (stored_of b) (stored_of c) f g

-- a buffer that is seen otherwise
pub with-leaves : (holder : Holder) (f : Buffer → Buffer) (slot to : Option KeptBuffer) → to ≡ option_map (with_seen f) slot → SlotLeaves holder slot to
with-leaves holder f slot to e = subst (SlotLeaves holder slot) (sym e) (by slot)
  where
    by : (slot : Option KeptBuffer) → SlotLeaves holder slot (option_map (with_seen f) slot)
    by None = tt
    by (Some b) = λ _ _. but-same (same_holder holder) (stored_of b)

pub slot-to : (holder : Holder) (slot to : Option KeptBuffer) → to ≡ slot → SlotLeaves holder slot to
slot-to holder slot to e = subst (SlotLeaves holder slot) (sym e) (slot-same holder slot)

-- a buffer in a slot
pub some-leaves : (holder : Holder) (slot to : Option KeptBuffer) (a b : KeptBuffer) → slot ≡ Some a → to ≡ Some b → Leaves holder (stored_of a) (stored_of b) → SlotLeaves holder slot to
some-leaves holder slot to a b s t f = subst (λ x. SlotLeaves holder x to) (sym s) (subst (SlotLeaves holder (Some a)) (sym t) f)

-- all slots

pub leave-same : (holder : Holder) (bs : List (Option KeptBuffer)) → AllLeave holder bs bs
leave-same holder bs n = slot-same holder (slice_index_or bs n None)

pub leave-to : (holder : Holder) (bs now : List (Option KeptBuffer)) → now ≡ bs → AllLeave holder bs now
leave-to holder bs now e = subst (AllLeave holder bs) (sym e) (leave-same holder bs)

pub leave-after : (holder : Holder) (a b c : List (Option KeptBuffer)) → AllLeave holder a b → AllLeave holder b c → AllLeave holder a c
leave-after holder a b c f g n = slot-after holder (slice_index_or a n None) (slice_index_or b n None) (slice_index_or c n None) (f n) (g n)

pub leave-set : (holder : Holder) (n : ℕ) (slot to : Option KeptBuffer) (bs : List (Option KeptBuffer)) → slot ≡ get_or bs n slot → SlotLeaves holder slot to → AllLeave holder bs (set bs n to)
leave-set holder n slot to [] g f m = tt
leave-set holder zero slot to (o ∷ bs) g f zero = subst (λ x. SlotLeaves holder x to) g f
leave-set holder zero slot to (o ∷ bs) g f (suc m) = slot-same holder (slice_index_or bs m None)
leave-set holder (suc n) slot to (o ∷ bs) g f zero = slot-same holder o
leave-set holder (suc n) slot to (o ∷ bs) g f (suc m) = leave-set holder n slot to bs g f m

pub mapped-leaves : (holder : Holder) (f : Buffer → Buffer) (bs now : List (Option KeptBuffer)) → now ≡ map (option_map (with_seen f)) bs → AllLeave holder bs now
mapped-leaves holder f bs now e = subst (AllLeave holder bs) (sym e) (each bs)
  where
    each : (bs : List (Option KeptBuffer)) → AllLeave holder bs (map (option_map (with_seen f)) bs)
    each [] n = tt
    each (b ∷ bs) zero = with-leaves holder f b (option_map (with_seen f) b) refl
    each (b ∷ bs) (suc n) = each bs n

-- a slot that is emptied
pub gone-leaves : (holder : Holder) (n : ℕ) (bs : List (Option KeptBuffer)) → AllLeave holder bs (set bs n None)
gone-leaves holder n [] m = tt
gone-leaves holder zero (o ∷ bs) zero = tt
gone-leaves holder zero (o ∷ bs) (suc m) = slot-same holder (slice_index_or bs m None)
gone-leaves holder (suc n) (o ∷ bs) zero = slot-same holder o
gone-leaves holder (suc n) (o ∷ bs) (suc m) = gone-leaves holder n bs m

-- a buffer that was opened is put in
new-leaves : (holder : Holder) (slot : Option KeptBuffer) (b : KeptBuffer) → b.since.is_new ≡ true → SlotLeaves holder slot (Some b)
new-leaves holder None b e = λ new again. absurd (let no : true ≡ false = sym e ∙ new in cc)
new-leaves holder (Some a) b e = λ new again. absurd (let no : true ≡ false = sym e ∙ new in cc)

pub placed-leaves : (holder : Holder) (n : ℕ) (b : KeptBuffer) (bs : List (Option KeptBuffer)) → b.since.is_new ≡ true → AllLeave holder bs (set bs n (Some b))
placed-leaves holder n b [] e m = tt
placed-leaves holder zero b (o ∷ bs) e zero = new-leaves holder o b e
placed-leaves holder zero b (o ∷ bs) e (suc m) = slot-same holder (slice_index_or bs m None)
placed-leaves holder (suc n) b (o ∷ bs) e zero = slot-same holder o
placed-leaves holder (suc n) b (o ∷ bs) e (suc m) = placed-leaves holder n b bs e m

pub pushed-leaves : (holder : Holder) (b : KeptBuffer) (bs : List (Option KeptBuffer)) → b.since.is_new ≡ true → AllLeave holder bs (bs ++ Some b ∷ [])
pushed-leaves holder b [] e zero = new-leaves holder None b e
pushed-leaves holder b [] e (suc m) = tt
pushed-leaves holder b (o ∷ bs) e zero = slot-same holder o
pushed-leaves holder b (o ∷ bs) e (suc m) = pushed-leaves holder b bs e m

-- a step

stored-at : (bs : List (Option KeptBuffer)) (n : ℕ) → slice_index_or (all_stored bs) n None ≡ option_map stored_of (slice_index_or bs n None)
stored-at [] n = refl
stored-at (b ∷ bs) zero = refl
stored-at (b ∷ bs) (suc n) = stored-at bs n

slot-on : (who : ℕ) (before : Option Stored) (old new : Option KeptBuffer) → LeavesSlot who before (option_map stored_of old) → SlotLeaves (Of who) old new → LeavesSlot who before (option_map stored_of new)
slot-on who None old new h f = tt
slot-on who (Some before) old None h f = tt
slot-on who (Some before) None (Some new) h f = λ fresh again other apart has. absurd (f fresh again)
slot-on who (Some before) (Some old) (Some new) h f = λ fresh again other apart has.
    let last = f fresh again in
    let first = h (ap (λ (s : Since). s.is_new) (sym last.since) ∙ fresh) (ap (λ (s : Since). s.began_again) (sym last.since) ∙ again) other apart has in
    row-after other before.shelf old.shelf new.shelf first (last.rows other apart first.there)

pub step-on : (who : ℕ) (before : List (Option Stored)) (bs now : List (Option KeptBuffer)) → LeavesOthersOf who before (all_stored bs) → AllLeave (Of who) bs now → LeavesOthersOf who before (all_stored now)
step-on who before bs now h f n =
    subst (LeavesSlot who (slice_index_or before n None)) (sym (stored-at now n))
    (slot-on who (slice_index_or before n None) (slice_index_or bs n None) (slice_index_or now n None) (subst (LeavesSlot who (slice_index_or before n None)) (stored-at bs n) (h n)) (f n))

-- what a call does to a step, where something is said of it
abbrev pub Follows : Option Began → Option ℕ → Option ℕ → List (Option KeptBuffer) → List (Option KeptBuffer) → Type 0
Follows began turn next bs now = (b : Began) → began ≡ Some b → IsTurnAtMost b.who turn → IsTurnAtMost b.who next × AllLeave (Of b.who) bs now

pub in-step : (began : Option Began) (turn next : Option ℕ) (bs now : List (Option KeptBuffer)) → Follows began turn next bs now → IsInStep began turn bs → IsInStep began next now
in-step None turn next bs now f h = tt
in-step (Some b) turn next bs now f h =
    let on = f b refl h.turn in
    record { turn = on.0; others = step-on b.who b.stored bs now h.others on.1 }

-- whoever's step it is
pub follows-all : (began : Option Began) (turn : Option ℕ) (bs now : List (Option KeptBuffer)) → ((who : ℕ) → AllLeave (Of who) bs now) → Follows began turn turn bs now
follows-all began turn bs now f b e t = (t, f b.who)

-- whose turn it is
turn-own : (who number : ℕ) (turn : Option ℕ) → is_turn_of who turn ≡ true → IsTurnAtMost number turn → who ≡ number
turn-own who number None h t = absurd (let no : false ≡ true = h in cc)
turn-own who number (Some n) h t = sym (eqb-true n who h) ∙ t

pub follows-turn : (began : Option Began) (who : ℕ) (turn : Option ℕ) (bs now : List (Option KeptBuffer)) → is_turn_of who turn ≡ true → AllLeave (Of who) bs now → Follows began turn turn bs now
follows-turn began who turn bs now mine f b e t = (t, subst (λ n. AllLeave (Of n) bs now) (turn-own who b.who turn mine t) f)

-- a client whose step it is
abbrev whose : ℕ → Option Began → ℕ
whose who None = who
whose who (Some b) = b.who

abbrev said : Option Began → Bool
said None = false
said (Some b) = true

pub own-step : (began : Option Began) (who : ℕ) (b : Began) → IsStepOf who began → began ≡ Some b → who ≡ b.who
own-step None who b mine e = absurd (let no : false ≡ true = ap (λ o. said o) e in cc)
own-step (Some a) who b mine e = mine ∙ ap (whose who) e

-- a holder's list was brought up to date, and it is that holder's turn
pub entered-turn : (who k n : ℕ) (turn : Option ℕ) (slot to : Option KeptBuffer) (bs : List (Option KeptBuffer)) → turn ≡ Some who → IsTurnAtMost k turn → slot ≡ get_or bs n slot → SlotLeaves (Of who) slot to → AllLeave (Of k) bs (set bs n to)
entered-turn who k n turn slot to bs e t g f =
    let mine : who ≡ k = subst (IsTurnAtMost k) e t in
    subst (λ m. AllLeave (Of m) bs (set bs n to)) mine (leave-set (Of who) n slot to bs g f)

-- some change of the buffers, behind which the list of whose turn it is is brought up to date
pub follows-then : (began : Option Began) (turn : Option ℕ) (bs mid now : List (Option KeptBuffer)) → ((k : ℕ) → AllLeave (Of k) bs mid) → ((k : ℕ) → IsTurnAtMost k turn → AllLeave (Of k) mid now) → Follows began turn turn bs now
follows-then began turn bs mid now f h b e t = (t, leave-after (Of b.who) bs mid now (f b.who) (h b.who t))

pub follows-own : (began : Option Began) (who : ℕ) (turn : Option ℕ) (bs mid now : List (Option KeptBuffer)) → IsStepOf who began → AllLeave (Of who) bs mid → ((k : ℕ) → IsTurnAtMost k turn → AllLeave (Of k) mid now) → Follows began turn turn bs now
follows-own began who turn bs mid now mine f h b e t = (t, leave-after (Of b.who) bs mid now (subst (λ n. AllLeave (Of n) bs mid) (own-step began who b mine e) f) (h b.who t))

pub follows-entered : (began : Option Began) (who : ℕ) (turn : Option ℕ) (bs now : List (Option KeptBuffer)) → IsStepOf who began → ((k : ℕ) → IsTurnAtMost k (Some who) → AllLeave (Of k) bs now) → Follows began turn (Some who) bs now
follows-entered began who turn bs now mine h b e t = let own = own-step began who b mine e in (own, h b.who own)

-- a step that begins
begun-leaves : (who : ℕ) (slot : Option KeptBuffer) → LeavesSlot who (option_map stored_of slot) (option_map stored_of (option_map begun_in slot))
begun-leaves who None = tt
begun-leaves who (Some b) = λ _ _ other _ has. row-stays other b.shelf has

pub begins-step : (who : ℕ) (bs now : List (Option KeptBuffer)) → now ≡ map (option_map begun_in) bs → LeavesOthersOf who (all_stored bs) (all_stored now)
begins-step who bs now e = subst (λ xs. LeavesOthersOf who (all_stored bs) (all_stored xs)) (sym e) (each bs)
  where
    each : (bs : List (Option KeptBuffer)) → LeavesOthersOf who (all_stored bs) (all_stored (map (option_map begun_in) bs))
    each [] n = tt
    each (b ∷ bs) zero = begun-leaves who b
    each (b ∷ bs) (suc n) = each bs n

begun-seen : (bs now : List (Option KeptBuffer)) → now ≡ map (option_map begun_in) bs → all_seen now ≡ all_seen bs
begun-seen bs now e = ap all_seen e ∙ each bs
  where
    slot : (o : Option KeptBuffer) → slot_seen (option_map begun_in o) ≡ slot_seen o
    slot None = refl
    slot (Some b) = refl

    each : (bs : List (Option KeptBuffer)) → all_seen (map (option_map begun_in) bs) ≡ all_seen bs
    each [] = refl
    each (b ∷ bs) = ap (λ x. x ∷ all_seen (map (option_map begun_in) bs)) (slot b) ∙ ap (λ xs. slot_seen b ∷ xs) (each bs)

-- as the world keeps it then
pub stands-begun : (began next : Option Began) (who : ℕ) (pending differ : Bool) (turn : Option ℕ) (cs : List Client) (bs now : List (Option KeptBuffer)) (stored : List (Option Stored)) → next ≡ Some (record { who = who; stored = stored }) → stored ≡ all_stored bs → turn ≡ None → now ≡ map (option_map begun_in) bs
    → BuffersStand began pending differ turn cs bs → BuffersStand next pending false turn cs now
stands-begun began next who pending differ turn cs bs now stored n s t e h = record {
  has = subst HasBuffer (sym (begun-seen bs now e)) h.has;
  quiet = λ q. subst AreQuiet (sym (begun-seen bs now e)) (h.quiet q);
  calm = λ _. begun-calm bs now e;
  up = nobody-up turn cs now t;
  step = subst (λ x. IsInStep x turn now) (sym n) (record {
    turn = subst (IsTurnAtMost who) (sym t) tt;
    others = subst (λ xs. LeavesOthersOf who xs (all_stored now)) (sym s) (begins-step who bs now e);
  });
}

pub flat-begun : {sc : Scoped} {st : List (Option Stored)} (bs now : List (Option KeptBuffer)) (cs : List Client) (r : Rest) (w : Kept) → parts (all_seen bs) cs r sc st ≡ w → now ≡ map (option_map begun_in) bs → (parts (all_seen now) cs r sc []).flat ≡ w.flat
flat-begun {sc = sc} bs now cs r w v e = ap (λ xs. (parts xs cs r sc []).flat) (begun-seen bs now e) ∙ ap (λ (k : Kept). k.flat) v

-- a step that ends
pub ended-since : (began : Option Began) (turn : Option ℕ) (bs : List (Option KeptBuffer)) (stored : List (Option Stored)) → IsInStep began turn bs → stored ≡ all_stored bs → LeavesSince began stored
ended-since None turn bs stored h s = tt
ended-since (Some b) turn bs stored h s = subst (LeavesOthersOf b.who b.stored) (sym s) h.others

pub stands-ended : (began : Option Began) (pending differ : Bool) (turn : Option ℕ) (cs : List Client) (bs : List (Option KeptBuffer)) → BuffersStand began pending differ turn cs bs → BuffersStand None pending differ turn cs bs
stands-ended began pending differ turn cs bs h = record { has = h.has; quiet = h.quiet; calm = h.calm; up = h.up; step = tt }

-- the lists on one buffer

-- what is said inside of a buffer, said of it
pub but-outside : (mine : Holder → Bool) (name : List ℕ) (file : Bool) (story : Story) (shelf now : Shelved) (si : Since) (b : KeptBuffer) → buffer_kept name file story shelf si ≡ b → ((other : Holder) → mine other ≡ false → has_row other shelf ≡ true → LeavesRow other shelf now) → LeavesBut mine (stored_of b) (record { shelf = now; since = si })
but-outside mine name file story shelf now si b v f = subst (λ (x : KeptBuffer). LeavesBut mine (stored_of x) (record { shelf = now; since = si })) v (record { since = refl; rows = f })

pub sels-leaves : (holder : Holder) (sels : Listed) (shelf mid now : Shelved) → mid ≡ with_sels holder sels shelf → now ≡ trimmed_shelf mid → (other : Holder) → same_holder holder other ≡ false → has_row other shelf ≡ true → LeavesRow other shelf now
sels-leaves holder sels shelf mid now m t other apart has =
    let changed = lag-leaves holder other (λ lag. record { stamp = stamp_of shelf.log; sels = sels }) shelf apart has in
    subst (LeavesRow other shelf) (sym t) (row-after other shelf mid (trimmed_shelf mid) (subst (LeavesRow other shelf) (sym m) changed) (by-rows other mid (trimmed_shelf mid) refl (subst (λ x. has_row other x ≡ true) (sym m) changed.there)))

pub main-leaves : (holder : Holder) (n : ℕ) (shelf now : Shelved) → now ≡ with_main holder n shelf → (other : Holder) → same_holder holder other ≡ false → has_row other shelf ≡ true → LeavesRow other shelf now
main-leaves holder n shelf now e other apart has =
    subst (LeavesRow other shelf) (sym e) (lag-leaves holder other (λ lag. record { stamp = lag.stamp; sels = record { list = lag.sels.list; main = n } }) shelf apart has)

pub placed-elsewhere : (holder : Holder) (corner : Corner) (shelf now : Shelved) → now ≡ with_corner holder corner shelf → (other : Holder) → same_holder holder other ≡ false → has_row other shelf ≡ true → LeavesRow other shelf now
placed-elsewhere holder corner shelf now e other apart has = subst (LeavesRow other shelf) (sym e) (corner-leaves holder other corner shelf apart has)

pub up-leaves : (holder : Holder) (shelf now : Shelved) → now ≡ entered holder shelf → (other : Holder) → same_holder holder other ≡ false → has_row other shelf ≡ true → LeavesRow other shelf now
up-leaves holder shelf now e other apart has = subst (LeavesRow other shelf) (sym e) (entered-leaves holder other shelf apart has)

pub dropped-leaves : (holder : Holder) (shelf mid now : Shelved) → mid ≡ unlisted holder shelf → now ≡ trimmed_shelf mid → (other : Holder) → same_holder holder other ≡ false → has_row other shelf ≡ true → LeavesRow other shelf now
dropped-leaves holder shelf mid now m t other apart has =
    let left = unlisted-leaves holder other shelf apart has in
    subst (LeavesRow other shelf) (sym t) (row-after other shelf mid (trimmed_shelf mid) (subst (LeavesRow other shelf) (sym m) left) (by-rows other mid (trimmed_shelf mid) refl (subst (λ x. has_row other x ≡ true) (sym m) left.there)))

pub listed-leaves : (f : Buffer → Buffer) (text : List ℕ) (shelf now : Shelved) → IsListedBy f text shelf now → (other : Holder) → is_nobody other ≡ false → has_row other shelf ≡ true → LeavesRow other shelf now
listed-leaves f text shelf now l other _ has = added-leaves other shelf now l.added (ap (λ (x : Shelved). x.rows) l.behind) has

-- behind shifts that were noted
kept-noted : {A : Type 0} (room : Bool) (noted : Result (Unit {0}) A) (si : Since) → (since_behind (room && is_ok noted) si).began_again ≡ false → (room ≡ true) × (is_ok noted ≡ true) × (since_behind (room && is_ok noted) si ≡ si)
kept-noted true (Ok x) si e = (refl, refl, refl)
kept-noted true (Err x) si e = absurd (let no : true ≡ false = e in cc)
kept-noted false (Ok x) si e = absurd (let no : true ≡ false = e in cc)
kept-noted false (Err x) si e = absurd (let no : true ≡ false = e in cc)

pub ok-holds : {T A P : Type 0} (r : Result T A) → is_ok r ≡ true → OnOk r P → P
ok-holds (Ok x) e p = p
ok-holds (Err x) e p = absurd (let no : false ≡ true = e in cc)

pub noted-stays : {A : Type 0} (name : List ℕ) (file : Bool) (story : Story) (holder : Holder) (given : List Shift) (count : ℕ) (room : Bool) (noted : Result (Unit {0}) A) (shelf now : Shelved) (si then : Since) (b : KeptBuffer) → buffer_kept name file story shelf si ≡ b → count ≡ length given → room ≡ has_room count shelf
    → OnOk noted (now ≡ entered holder (all_noted given shelf)) → then ≡ since_behind (room && is_ok noted) si → Leaves holder (stored_of b) (record { shelf = now; since = then })
noted-stays name file story holder given count room noted shelf now si then b v n r ok t new again =
    let all = kept-noted room noted si (ap (λ (s : Since). s.began_again) (sym t) ∙ again) in
    let same : si ≡ then = sym (t ∙ all.2) in
    let there : has_room (length given) shelf ≡ true = ap (λ k. has_room k shelf) (sym n) ∙ sym r ∙ all.0 in
    subst (λ s. LeavesBut (same_holder holder) (stored_of b) (record { shelf = now; since = s })) same
    (but-outside (same_holder holder) name file story shelf now si b v
    (λ other apart has. subst (LeavesRow other shelf) (sym (ok-holds noted all.1 ok)) (noted-leaves holder other given shelf there apart has)))

-- where they were noted, the lists of others are left as they are stored
pub leaves-others : (name : List ℕ) (file : Bool) (story : Story) (holder : Holder) (n : ℕ) (given : List Shift) (shelf now : Shelved) (si : Since) (b : KeptBuffer) → buffer_kept name file story shelf si ≡ b → length given ≡ n → now ≡ entered holder (all_noted given shelf) → LeavesRows holder n b.shelf now
leaves-others name file story holder n given shelf now si b v e t room other apart has =
    let same : b.shelf ≡ shelf = ap (λ (x : KeptBuffer). x.shelf) (sym v) in
    subst (λ x. LeavesRow other x now) (sym same)
    (subst (LeavesRow other shelf) (sym t)
    (noted-leaves holder other given shelf (ap (λ k. has_room k shelf) e ∙ ap (has_room n) (sym same) ∙ room) apart (ap (has_row other) (sym same) ∙ has)))

-- and behind that the holder's own list was replaced
pub others-then : (holder : Holder) (n : ℕ) (old mid : Shelved) (b c : Stored) → mid ≡ b.shelf → LeavesRows holder n old mid → LeavesBut (same_holder holder) b c → LeavesRows holder n old c.shelf
others-then holder n old mid b c e f g room other apart has =
    let first = subst (LeavesRow other old) e (f room other apart has) in
    row-after other old b.shelf c.shelf first (g.rows other apart first.there)

shifts-counted : (text : List ℕ) (cs : List Change) → length (change_shifts text cs) ≡ length cs
shifts-counted text [] = refl
shifts-counted text (c ∷ cs) = ap suc (shifts-counted (changed text c) cs)

-- as many shifts are noted for a move as it makes changes
pub counted-move : (name : List ℕ) (file : Bool) (story : Story) (travel : Travel) (count : ℕ) (shifts : List Shift) (shelf : Shelved) (si : Since) (b : KeptBuffer) → buffer_kept name file story shelf si ≡ b → count ≡ length shifts → shifts ≡ change_shifts story.text (move_changes travel story) → count ≡ length (move_changes travel b.seen.story)
counted-move name file story travel count shifts shelf si b v n e = n ∙ ap length e ∙ shifts-counted story.text (move_changes travel story) ∙ ap (λ (x : KeptBuffer). length (move_changes travel x.seen.story)) v

-- an answer that is well where memory wasn't wanting
pub moved-ok : {E A : Type 0} (P : Type 0) (w : E) (n : Result (Unit {0}) A) (r : Result (Unit {0}) E) → r ≡ and_then w (Ok tt) n → OnOk n P → OnOk r P
moved-ok P w (Ok x) r e p = subst (λ s. OnOk s P) (sym e) p
moved-ok P w (Err x) r e p = subst (λ s. OnOk s P) (sym e) tt

pub by-either : {A B C : Type 0} → (A ⊎ B) → (A → C) → (B → C) → C
by-either (inl a) f g = f a
by-either (inr b) f g = g b

pub told-ok : {T E : Type 0} (r : Result T E) → IsOk r → is_ok r ≡ true
told-ok (Ok x) h = refl
told-ok (Err x) h = absurd (let no : false ≡ true = h in cc)

pub then-stays : (holder : Holder) (a b c : Stored) → Leaves holder a b → LeavesBut (same_holder holder) b c → Leaves holder a c
then-stays holder a b c f g new again = leaves-after holder a b c f (λ _ _. g) new again

-- what became of the buffer then
since-ok : {A : Type 0} (noted : Result (Unit {0}) A) (room : Bool) (si then : Since) → then ≡ since_behind (room && is_ok noted) si → OnOk noted (then ≡ since_behind room si)
since-ok (Ok x) true si then e = e
since-ok (Ok x) false si then e = e
since-ok (Err x) room si then e = tt

pub since-noted : {A : Type 0} (name : List ℕ) (file : Bool) (story : Story) (count n : ℕ) (room : Bool) (noted : Result (Unit {0}) A) (shelf : Shelved) (si then : Since) (b : KeptBuffer) → buffer_kept name file story shelf si ≡ b → count ≡ n → room ≡ has_room count shelf → then ≡ since_behind (room && is_ok noted) si
    → OnOk noted (then ≡ since_behind (has_room n b.shelf) b.since)
since-noted name file story count n room noted shelf si then b v e r t =
    subst (λ (x : KeptBuffer). OnOk noted (then ≡ since_behind (has_room n x.shelf) x.since)) v
    (subst (λ k. OnOk noted (then ≡ since_behind k si)) (r ∙ ap (λ k. has_room k shelf) e) (since-ok noted room si then t))

pub since-none : {A : Type 0} (name : List ℕ) (file : Bool) (story : Story) (count : ℕ) (room : Bool) (noted : Result (Unit {0}) A) (shelf : Shelved) (si then : Since) (b : KeptBuffer) → buffer_kept name file story shelf si ≡ b → count ≡ 0 → room ≡ has_room count shelf → is_ok noted ≡ true → then ≡ since_behind (room && is_ok noted) si
    → then ≡ b.since
since-none name file story count room noted shelf si then b v e r ok t =
    let there : room ≡ true = r ∙ ap (λ k. has_room k shelf) e in
    t ∙ ap (λ p. since_behind (p && is_ok noted) si) there ∙ ap (λ p. since_behind p si) ok ∙ ap (λ (x : KeptBuffer). x.since) v
