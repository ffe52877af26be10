-- How far a row came for which memory was wanting.
use Rattle.std.proofs.Common.{◌≡◌, ℕ, true, false, List, refl, sym, ap, ap₂, subst, ◌∙◌, inl, inr}
use Rattle.std.specs.declared.option.Option.{Option}
use Rattle.list_model.specs.Ranges.{Range, Selected}
use Rattle.selection_set.specs.Listing.{Listed, ranges_of}
use Rattle.selection_set.specs.Held.{selected}
use Rattle.undo_model.specs.Edits.{Splice}
use Rattle.buffer_store.specs.declared.edits.Splice.{Splice as CodeSplice}
use Rattle.buffer_store.specs.Buffers.{flat_splices, changes_of}
use Rattle.kak_world.specs.Flat.{Buffer, Flat, scoped_of, text_of, sels_of, with_buffers, with_sels}
use Rattle.kak_world.specs.Changing.{splice_changes_of, IsAfterSomeChanges}
use Rattle.kak_world.specs.Events.{has_hooks, LacksEvents}
use Rattle.kak_world.specs.Registers.{with_register}
use Rattle.kak_world.specs.Rows.{RowEnd, does}
use Rattle.kak_world.proofs.EventLaws.{lacks_noted}
use Rattle.kak_world.proofs.WorldLaws.{sels_writes}
use Rattle.key_rows.specs.declared.entries.InsertEntry.{InsertEntry}
use Rattle.key_rows.specs.declared.entries.InsertEntry.TheVariants as entry
use Rattle.key_rows.specs.Entering.{place_row, edits_first}
use Rattle.key_rows.specs.Reading.{used, own_strings}
use Rattle.key_rows.specs.Wanting.{IsPartWay, IsPartOfKeep, kept_in}

-- replacements of the code are those of a definition that goes by the text and the client's selections
pub flats-are : (f : List ℕ → List Range → List Splice) (who : ℕ) (flat : Flat) (lines : List ℕ) (list : Listed) (ss given : List CodeSplice) → given ≡ ss → lines ≡ text_of who flat → sels_of who flat ≡ selected (text_of who flat) list
    → flat_splices lines ss ≡ f lines (ranges_of lines list.list) → flat_splices (text_of who flat) given ≡ f (text_of who flat) (sels_of who flat).list
flats-are f who flat lines list ss given g l s e =
    ap₂ (λ t x. flat_splices t x) (sym l) g ∙ e ∙ ap (λ t. f t (ranges_of t list.list)) l ∙ ap (λ (x : Selected). f (text_of who flat) x.list) (sym s)

-- some of their changes were made
pub some-made : (who : ℕ) (flat new : Flat) (ss : List CodeSplice) (fs : List Splice) → flat_splices (text_of who flat) ss ≡ fs → IsAfterSomeChanges who (changes_of (text_of who flat) ss) flat new → IsPartWay fs who flat flat new
some-made who flat new ss fs e h = inr (inr (subst (λ xs. IsAfterSomeChanges who (splice_changes_of xs who flat) flat new) e h))

-- what came part of the way in a world that was made ready
pub behind-ready : (f : Flat → List Splice) (who : ℕ) (old ready kept new : Flat) → kept ≡ ready → IsPartWay (f kept) who kept kept new → IsPartWay (f ready) who old ready new
behind-ready f who old ready kept new e h =
    let there : IsPartWay (f ready) who ready ready new = subst (λ k. IsPartWay (f k) who k k new) e h in
    elim there [ inl same ↦ inr (inl same) | inr some ↦ inr some ]

-- a register keeps the texts of a client's selections, and memory was wanting for what hooks are to hear of it
pub kept-unheard : (register : Option ℕ) (name who : ℕ) (old mid new : Flat) → name ≡ used register → mid ≡ with_register name (own_strings who old) old → new ≡ mid → has_hooks new ≡ true → IsPartOfKeep register who old new
kept-unheard register name who old mid new u m n h =
    let e : with_register (used register) (own_strings who old) old ≡ new = ap (λ k. with_register k (own_strings who old) old) (sym u) ∙ sym m ∙ sym n in
    inr (record { hooks = h; lacks = subst (λ w. LacksEvents (kept_in register who old) w) e (lacks_noted _ (with_register (used register) (own_strings who old) old)) })

-- where no edit goes before insert mode, the same hooks are held when it is entered
hooks-buffers : (buffers : List (Option Buffer)) (flat : Flat) → has_hooks (with_buffers buffers flat) ≡ has_hooks flat
unfolding scoped_of with_buffers
hooks-buffers buffers flat = refl

hooks-sels : (who : ℕ) (sels : Selected) (flat : Flat) → has_hooks (with_sels who sels flat) ≡ has_hooks flat
hooks-sels who sels flat = ap has_hooks (sels_writes who sels flat) ∙ hooks-buffers _ flat

pub hooks-placed : (how : InsertEntry) (register : Option ℕ) (who : ℕ) (flat : Flat) → edits_first how ≡ false → has_hooks (place_row how register who flat).world ≡ has_hooks flat
hooks-placed entry.Before register who flat e = hooks-sels who _ flat
hooks-placed entry.Behind register who flat e = absurd (let no : true ≡ false = e in cc)
hooks-placed entry.FirstLine register who flat e = hooks-sels who _ flat
hooks-placed entry.LastNewline register who flat e = hooks-sels who _ flat
hooks-placed entry.Cut register who flat e = absurd (let no : true ≡ false = e in cc)
hooks-placed entry.Erase register who flat e = absurd (let no : true ≡ false = e in cc)
hooks-placed (entry.Open direction) register who flat e = absurd (let no : true ≡ false = e in cc)

-- so memory can't be wanting there for what hooks are to hear, where none is held
pub placed-calm : (how : InsertEntry) (register : Option ℕ) (who : ℕ) (old mid new : Flat) → place_row how register who old ≡ does mid → new ≡ mid → has_hooks new ≡ true → has_hooks old ≡ false → edits_first how ≡ false → ⊥
placed-calm how register who old mid new p n held calm first =
    let same : true ≡ false = sym held ∙ ap has_hooks n ∙ ap (λ (x : RowEnd). has_hooks x.world) (sym p) ∙ hooks-placed how register who old first ∙ calm in cc
