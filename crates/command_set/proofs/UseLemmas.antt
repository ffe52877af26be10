-- The lists that patterns make, as rows.
use Rattle.std.proofs.Common.{◌≡◌, ◌<◌, ◌≤◌, ◌+◌, ℕ, suc, Bool, true, false, List, [], ◌∷◌, length, refl, sym, ap, ◌∙◌, subst, arith}
use Rattle.std.specs.Prelude.{if◌then◌else◌, nat_lt, Some, Ok, Err, IfOk, IfErr, filter, flat_map}
use Rattle.std.proofs.lemmas.Bool.{ltb-true, lt-ltb}
use Rattle.std.proofs.lemmas.List.{length-map}
use Rattle.std.specs.declared.result.Result.{Result}
use Rattle.text_model.specs.declared.TheConstants.{MAX_SELECTIONS}
use Rattle.list_model.specs.Ranges.{Range, Selected}
use Rattle.selection_set.specs.Listing.{Listed, ranges_of}
use Rattle.selection_set.specs.Inside.{range_of}
use Rattle.selection_set.specs.Held.{selected, IsHeld}
use Rattle.regex_select.specs.Rows.{kept_each}
use Rattle.regex_select.specs.Selecting.{made_each}
use Rattle.regex_select.specs.Searching.{all_matches}
use Rattle.key_rows.specs.Patterns.{last_pattern, asks_for, asks_for_last}
use Rattle.key_rows.specs.Sequence.{after_unit}
use Rattle.kak_world.specs.declared.ask.Ask.{Ask}
use Rattle.kak_world.specs.declared.purpose.Use.{Use}
use Rattle.regex_select.specs.declared.error.SelectError.{SelectError}
use Rattle.regex_select.specs.declared.error.SelectError.TheVariants.{NoMatch, TooMany, NoMemory as Wanting}
use Rattle.regex_select.specs.Causes.{IsForNone, IsCause, IsForOneMore}
use Rattle.kak_world.specs.declared.ask.EditError.TheVariants.{NothingSelected, TooManySelections}
use Rattle.kak_world.specs.Flat.{Flat, text_of, sels_of, units_of, with_sels, with_list_of, with_units, rest_of, with_rest}
use Rattle.kak_world.specs.Rows.{Row, RowEnd, Asks, does, fails}
use Rattle.command_set.specs.Finishing.{unless_none, taken_within, made_taken, kept_taken, found_taken, further_asked}
use Rattle.command_set.specs.Refusing.{IsListOf}

-- a row where there is something to be selected, and where there is nothing
some-is : (rs : List Range) (row : RowEnd) (flat : Flat) → 0 < length rs → unless_none rs row flat ≡ row
some-is [] row flat h = absurd (omega (arith, h))
some-is (r ∷ rs) row flat h = refl

none-is : (rs : List Range) (row : RowEnd) (flat : Flat) → rs ≡ [] → unless_none rs row flat ≡ fails NothingSelected flat
none-is rs row flat e = ap (λ (x : List Range). unless_none x row flat) e

within-is : (count : ℕ) (sels : Selected) (who : ℕ) (flat : Flat) → count ≤ MAX_SELECTIONS → taken_within count sels who flat ≡ does (with_sels who sels flat)
within-is count sels who flat h = by (nat_lt MAX_SELECTIONS count) refl
  where
    by : (t : Bool) → nat_lt MAX_SELECTIONS count ≡ t → (if t then fails TooManySelections flat else does (with_sels who sels flat)) ≡ does (with_sels who sels flat)
    by false e = refl
    by true e = absurd (omega (arith, h, ltb-true _ _ e))

beyond-is : (count : ℕ) (sels : Selected) (who : ℕ) (flat : Flat) → MAX_SELECTIONS < count → taken_within count sels who flat ≡ fails TooManySelections flat
beyond-is count sels who flat h = ap (λ t. if t then fails TooManySelections flat else does (with_sels who sels flat)) (lt-ltb MAX_SELECTIONS count h)

some-of : (rs : List Range) → MAX_SELECTIONS < length rs → 0 < length rs
some-of rs h = omega (arith, h)

-- a list that is taken, of so many, unless there is none of some
taken-list : (rs : List Range) (count : ℕ) (sels : Selected) (s : Listed) (who : ℕ) (flat : Flat) → selected (text_of who flat) s ≡ sels → 0 < length rs → count ≤ MAX_SELECTIONS
    → unless_none rs (taken_within count sels who flat) flat ≡ does (with_sels who (selected (text_of who flat) s) flat)
taken-list rs count sels s who flat e some few =
    some-is rs (taken_within count sels who flat) flat some ∙ within-is count sels who flat few ∙ ap (λ (x : Selected). does (with_sels who x flat)) (sym e)

-- what the matches make of selections
pub made-list : (r : Result Listed SelectError) (rs : List Range) (sels : Selected) (who : ℕ) (flat : Flat)
    → IfOk r (λ s. selected (text_of who flat) s ≡ sels) → IfOk r (λ s. 0 < length rs) → IfOk r (λ s. length rs ≤ MAX_SELECTIONS) → IfErr r (λ e. IsCause e rs)
    → IsListOf r (unless_none rs (taken_within (length rs) sels who flat) flat) who flat
made-list (Ok s) rs sels who flat e some few cause = taken-list rs (length rs) sels s who flat e some few
made-list (Err NoMatch) rs sels who flat e some few cause = none-is rs _ flat cause
made-list (Err TooMany) rs sels who flat e some few cause = some-is rs _ flat (some-of rs cause) ∙ beyond-is (length rs) sels who flat cause
made-list (Err Wanting) rs sels who flat e some few cause = tt

-- lists of which there is always room
pub kept-list : (r : Result Listed SelectError) (rs : List Range) (sels : Selected) (who : ℕ) (flat : Flat)
    → IfOk r (λ s. selected (text_of who flat) s ≡ sels) → IfOk r (λ s. 0 < length rs) → IfErr r (λ e. IsForNone e rs)
    → IsListOf r (unless_none rs (does (with_sels who sels flat)) flat) who flat
kept-list (Ok s) rs sels who flat e some cause = some-is rs _ flat some ∙ ap (λ (x : Selected). does (with_sels who x flat)) (sym e)
kept-list (Err NoMatch) rs sels who flat e some cause = none-is rs _ flat cause
kept-list (Err TooMany) rs sels who flat e some cause = absurd cause
kept-list (Err Wanting) rs sels who flat e some cause = tt

-- one selection more
pub added-list : (r : Result Listed SelectError) (ms : List Range) (n : ℕ) (sels : Selected) (who : ℕ) (flat : Flat)
    → IfOk r (λ s. selected (text_of who flat) s ≡ sels) → IfOk r (λ s. 0 < length ms) → IfOk r (λ s. n < MAX_SELECTIONS) → IfErr r (λ e. IsForOneMore e ms n)
    → IsListOf r (unless_none ms (taken_within (n + 1) sels who flat) flat) who flat
added-list (Ok s) ms n sels who flat e some few cause = taken-list ms (n + 1) sels s who flat e some (omega (arith, few))
added-list (Err NoMatch) ms n sels who flat e some few cause = none-is ms _ flat cause
added-list (Err TooMany) ms n sels who flat e some few cause = some-is ms _ flat cause.0 ∙ beyond-is (n + 1) sels who flat (omega (arith, cause.1))
added-list (Err Wanting) ms n sels who flat e some few cause = tt

-- the same of the text and the list that a client sees, which the code has by these
pub held-there : (r : Result Listed SelectError) (l t : List ℕ) → l ≡ t → IfOk r (λ s. IsHeld l s) → IfOk r (λ s. IsHeld t s)
held-there r l t e h = subst (λ k. IfOk r (λ s. IsHeld k s)) e h

pub made-row : (make : List ℕ → Range → List Range) (r : Result Listed SelectError) (who : ℕ) (flat : Flat) (l : List ℕ) (given : Listed) → l ≡ text_of who flat → sels_of who flat ≡ selected (text_of who flat) given
    → IfOk r (λ s. selected l s ≡ made_each (make l) (selected l given)) → IfOk r (λ s. 0 < length (flat_map (make l) (ranges_of l given.list)))
    → IfOk r (λ s. length (flat_map (make l) (ranges_of l given.list)) ≤ MAX_SELECTIONS) → IfErr r (λ e. IsCause e (flat_map (make l) (ranges_of l given.list)))
    → IsListOf r (made_taken (make (text_of who flat)) who flat) who flat
made-row make r who flat l given t s e some few cause =
    let text : List ℕ = text_of who flat in
    let rs : List Range = flat_map (make text) (ranges_of text given.list) in
    let row : Selected → RowEnd = λ x. (let xs : List Range = flat_map (make text) x.list in unless_none xs (taken_within (length xs) (made_each (make text) x) who flat) flat) in
    subst (λ x. IsListOf r (row x) who flat) (sym s)
    (made-list r rs (made_each (make text) (selected text given)) who flat
    (subst (λ k. IfOk r (λ x. selected k x ≡ made_each (make k) (selected k given))) t e)
    (subst (λ k. IfOk r (λ x. 0 < length (flat_map (make k) (ranges_of k given.list)))) t some)
    (subst (λ k. IfOk r (λ x. length (flat_map (make k) (ranges_of k given.list)) ≤ MAX_SELECTIONS)) t few)
    (subst (λ k. IfErr r (λ x. IsCause x (flat_map (make k) (ranges_of k given.list)))) t cause))

pub kept-row : (test : List ℕ → Range → Bool) (r : Result Listed SelectError) (who : ℕ) (flat : Flat) (l : List ℕ) (given : Listed) → l ≡ text_of who flat → sels_of who flat ≡ selected (text_of who flat) given
    → IfOk r (λ s. selected l s ≡ kept_each (test l) (selected l given)) → IfOk r (λ s. 0 < length (filter (test l) (ranges_of l given.list)))
    → IfErr r (λ e. IsForNone e (filter (test l) (ranges_of l given.list)))
    → IsListOf r (kept_taken (test (text_of who flat)) who flat) who flat
kept-row test r who flat l given t s e some cause =
    let text : List ℕ = text_of who flat in
    let row : Selected → RowEnd = λ x. unless_none (filter (test text) x.list) (does (with_sels who (kept_each (test text) x) flat)) flat in
    subst (λ x. IsListOf r (row x) who flat) (sym s)
    (kept-list r (filter (test text) (ranges_of text given.list)) (kept_each (test text) (selected text given)) who flat
    (subst (λ k. IfOk r (λ x. selected k x ≡ kept_each (test k) (selected k given))) t e)
    (subst (λ k. IfOk r (λ x. 0 < length (filter (test k) (ranges_of k given.list)))) t some)
    (subst (λ k. IfErr r (λ x. IsForNone x (filter (test k) (ranges_of k given.list)))) t cause))

pub found-row : (source : List ℕ) (f : List Range → Selected → Selected) (r : Result Listed SelectError) (who : ℕ) (flat : Flat) (l : List ℕ) (given : Listed) → l ≡ text_of who flat → sels_of who flat ≡ selected (text_of who flat) given
    → IfOk r (λ s. selected l s ≡ f (all_matches source l) (selected l given)) → IfOk r (λ s. 0 < length (all_matches source l)) → IfErr r (λ e. IsForNone e (all_matches source l))
    → IsListOf r (found_taken (all_matches source (text_of who flat)) (f (all_matches source (text_of who flat)) (sels_of who flat)) who flat) who flat
found-row source f r who flat l given t s e some cause =
    let text : List ℕ = text_of who flat in
    let ms : List Range = all_matches source text in
    subst (λ x. IsListOf r (unless_none ms (does (with_sels who (f ms x) flat)) flat) who flat) (sym s)
    (kept-list r ms (f ms (selected text given)) who flat
    (subst (λ k. IfOk r (λ x. selected k x ≡ f (all_matches source k) (selected k given))) t e)
    (subst (λ k. IfOk r (λ x. 0 < length (all_matches source k))) t some)
    (subst (λ k. IfErr r (λ x. IsForNone x (all_matches source k))) t cause))

pub added-row : (source : List ℕ) (f : List Range → Selected → Selected) (r : Result Listed SelectError) (who : ℕ) (flat : Flat) (l : List ℕ) (given : Listed) → l ≡ text_of who flat → sels_of who flat ≡ selected (text_of who flat) given
    → IfOk r (λ s. selected l s ≡ f (all_matches source l) (selected l given)) → IfOk r (λ s. 0 < length (all_matches source l)) → IfOk r (λ s. length given.list < MAX_SELECTIONS)
    → IfErr r (λ e. IsForOneMore e (all_matches source l) (length given.list))
    → IsListOf r (unless_none (all_matches source (text_of who flat)) (taken_within (length (sels_of who flat).list + 1) (f (all_matches source (text_of who flat)) (sels_of who flat)) who flat) flat) who flat
added-row source f r who flat l given t s e some few cause =
    let text : List ℕ = text_of who flat in
    let ms : List Range = all_matches source text in
    let row : ℕ → Selected → RowEnd = λ n x. unless_none ms (taken_within (n + 1) (f ms x) who flat) flat in
    subst (λ x. IsListOf r (row (length x.list) x) who flat) (sym s)
    (subst (λ n. IsListOf r (row n (selected text given)) who flat) (sym (length-map given.list (range_of text)))
    (added-list r ms (length given.list) (f ms (selected text given)) who flat
    (subst (λ k. IfOk r (λ x. selected k x ≡ f (all_matches source k) (selected k given))) t e)
    (subst (λ k. IfOk r (λ x. 0 < length (all_matches source k))) t some)
    few
    (subst (λ k. IfErr r (λ x. IsForOneMore x (all_matches source k) (length given.list))) t cause)))

-- neither a list nor a unit is a register's
pub last-then : (who : ℕ) (sels : Selected) (flat : Flat) → last_pattern (with_sels who sels flat) ≡ last_pattern flat
unfolding rest_of with_sels with_list_of
last-then who sels flat = refl

pub last-unit : (units : ℕ) (flat : Flat) → last_pattern (with_units units flat) ≡ last_pattern flat
unfolding rest_of with_rest
last-unit units flat = refl

-- a further use is asked for behind the list, for which a unit was taken
pub unit-asked : (next : Use) (who : ℕ) (sels : Selected) (flat mid new : Flat) (ask : Ask) → asks_for_last next flat ≡ record { world = flat; row = Asks ask } → mid ≡ with_sels who sels flat
    → units_of mid ≡ suc (units_of new) → new ≡ with_units (units_of new) mid → further_asked (Some next) (with_sels who sels flat) ≡ record { world = new; row = Asks ask }
unit-asked next who sels flat mid new ask a m u n =
    let last : last_pattern new ≡ last_pattern flat = ap last_pattern n ∙ last-unit (units_of new) mid ∙ ap last_pattern m ∙ last-then who sels flat in
    ap (λ (w : Flat). after_unit (units_of w) (asks_for_last next) w) (sym m)
    ∙ ap (λ k. after_unit k (asks_for_last next) mid) u
    ∙ ap (asks_for_last next) (sym n)
    ∙ ap (λ p. asks_for p next new) last
    ∙ ap (λ (r : Row). let x : RowEnd = record { world = new; row = r } in x) (ap (λ (x : RowEnd). x.row) a)
