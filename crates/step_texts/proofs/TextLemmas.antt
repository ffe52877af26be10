-- The texts of a world behind each of its changes.
use Rattle.std.proofs.Common.{◌≡◌, ℕ, zero, suc, Bool, true, false, List, [], ◌∷◌, map, refl, ap, ap₂, ◌∙◌, None, Some}
use Rattle.std.specs.Prelude.{if◌then◌else◌, option_map, Ok, Err}
use Rattle.std.specs.declared.option.Option.{Option}
use Rattle.std.specs.declared.result.Result.{Result}
use Rattle.text_model.specs.Changes.{Change, all_changed}
use Rattle.undo_model.specs.Stories.{Story, is_own, committed}
use Rattle.undo_model.proofs.StoryLemmas.{committed-text}
use Rattle.buffer_store.proofs.PartLemmas.{edited-text}
use Rattle.scope_options.specs.declared.options.OptionError.{OptionError}
use Rattle.scope_options.specs.declared.setting.Setting.{Setting}
use Rattle.kak_world.specs.declared.own.Own.{Own}
use Rattle.kak_world.specs.declared.world.Rest.{Rest}
use Rattle.list_model.specs.Ranges.{Selected}
use Rattle.kak_world.specs.declared.own.Mode.{Mode}
use Rattle.kak_world.specs.declared.own.Mode.TheVariants.{Normal, Insert, Prompt}
use Rattle.kak_world.specs.declared.events.HookEvent.{HookEvent}
use Rattle.kak_world.specs.Flat.{Buffer, Flat, changed_at, committed_for, with_own, with_buffers, with_rest, with_list_of, with_list, shown_of, with_sels, with_corner, joined_by, left_by_client, left_behind, listed_for, lowest}
use Rattle.kak_world.specs.Events.{noted, mode_left, WantsEvents}
use Rattle.kak_world.specs.Showing.{shows}
use Rattle.list_shelf.specs.Shelves.{Held}
use Rattle.list_shelf.specs.declared.holder.Holder.TheVariants.{Of}
use Rattle.window_view.specs.declared.corner.Corner.{Corner}
use Rattle.kak_world.specs.Changing.{broken_off, buffer_edited, buffer_broken_off, changed_in, commits}
use Rattle.kak_world.specs.Saving.{marked_as_saved, saved_in}
use Rattle.command_set.specs.Files.{set_or_same}
use Rattle.step_texts.specs.Texts.{text_in, all_texts, texts_of, HasSameTexts, texts_changed}

-- without a change each text stays
pub texts-unchanged : (n : ℕ) (texts : List (Option (List ℕ))) → texts_changed n [] texts ≡ texts
texts-unchanged n [] = refl
texts-unchanged zero (None ∷ texts) = refl
texts-unchanged zero (Some text ∷ texts) = refl
texts-unchanged (suc n) (text ∷ texts) = ap (λ (q : List (Option (List ℕ))). text ∷ q) (texts-unchanged n texts)

-- a buffer that is changed so
some-text : (f : Buffer → Buffer) (cs : List Change) → ((b : Buffer) → text_in (f b) ≡ all_changed (text_in b) cs) → (b : Option Buffer) → option_map text_in (option_map f b) ≡ option_map (λ t. all_changed t cs) (option_map text_in b)
some-text f cs h None = refl
some-text f cs h (Some b) = ap (λ (t : List ℕ). Some t) (h b)

pub texts-at : (f : Buffer → Buffer) (cs : List Change) → ((b : Buffer) → text_in (f b) ≡ all_changed (text_in b) cs) → (n : ℕ) (bs : List (Option Buffer)) → all_texts (changed_at n f bs) ≡ texts_changed n cs (all_texts bs)
texts-at f cs h n [] = refl
texts-at f cs h zero (b ∷ bs) = ap (λ (t : Option (List ℕ)). t ∷ all_texts bs) (some-text f cs h b)
texts-at f cs h (suc n) (b ∷ bs) = ap (λ (q : List (Option (List ℕ))). option_map text_in b ∷ q) (texts-at f cs h n bs)

-- a buffer whose text stays
same-text : (f : Buffer → Buffer) → ((b : Buffer) → text_in (f b) ≡ text_in b) → (b : Option Buffer) → option_map text_in (option_map f b) ≡ option_map text_in b
same-text f h None = refl
same-text f h (Some b) = ap (λ (t : List ℕ). Some t) (h b)

pub texts-kept : (f : Buffer → Buffer) → ((b : Buffer) → text_in (f b) ≡ text_in b) → (n : ℕ) (bs : List (Option Buffer)) → all_texts (changed_at n f bs) ≡ all_texts bs
texts-kept f h n [] = refl
texts-kept f h zero (b ∷ bs) = ap (λ (t : Option (List ℕ)). t ∷ all_texts bs) (same-text f h b)
texts-kept f h (suc n) (b ∷ bs) = ap (λ (q : List (Option (List ℕ))). option_map text_in b ∷ q) (texts-kept f h n bs)

texts-mapped : (f : Buffer → Buffer) → ((b : Buffer) → text_in (f b) ≡ text_in b) → (bs : List (Option Buffer)) → all_texts (map (option_map f) bs) ≡ all_texts bs
texts-mapped f h [] = refl
texts-mapped f h (b ∷ bs) = ap₂ (λ (t : Option (List ℕ)) (q : List (Option (List ℕ))). t ∷ q) (same-text f h b) (texts-mapped f h bs)

-- a world in which a buffer is changed
pub changed-texts : (n : ℕ) (f : Buffer → Buffer) (cs : List Change) → ((b : Buffer) → text_in (f b) ≡ all_changed (text_in b) cs) → (flat : Flat) → texts_of (changed_in n f flat) ≡ texts_changed n cs (texts_of flat)
unfolding changed_in with_buffers
changed-texts n f cs h flat = texts-at f cs h n flat.buffers

pub kept-texts : (n : ℕ) (f : Buffer → Buffer) → ((b : Buffer) → text_in (f b) ≡ text_in b) → (flat : Flat) → HasSameTexts flat (changed_in n f flat)
unfolding changed_in with_buffers
kept-texts n f h flat = texts-kept f h n flat.buffers

-- some of an edit, and some of a move
pub edited-texts : (n who : ℕ) (cs : List Change) (flat : Flat) → texts_of (changed_in n (buffer_edited who cs) flat) ≡ texts_changed n cs (texts_of flat)
edited-texts n who cs flat = changed-texts n (buffer_edited who cs) cs (λ b. edited-text who cs b.story) flat

broken-text : (cs : List Change) (s : Story) → (broken_off cs s).text ≡ all_changed s.text cs
broken-text [] s = committed-text s
broken-text (c ∷ cs) s = refl

pub broken-texts : (n : ℕ) (cs : List Change) (flat : Flat) → texts_of (changed_in n (buffer_broken_off cs) flat) ≡ texts_changed n cs (texts_of flat)
broken-texts n cs flat = changed-texts n (buffer_broken_off cs) cs (λ b. broken-text cs b.story) flat

-- what is no buffer's, and what is a client's own
pub texts-rest : (f : Rest → Rest) (flat : Flat) → HasSameTexts flat (with_rest f flat)
unfolding with_rest
texts-rest f flat = refl

pub texts-own : (who : ℕ) (f : Own → Own) (flat : Flat) → HasSameTexts flat (with_own who f flat)
unfolding with_own
texts-own who f flat = refl

pub texts-list : (who : ℕ) (f : Held → Held) (flat : Flat) → HasSameTexts flat (with_list_of who f flat)
unfolding with_list_of with_buffers
texts-list who f flat = texts-kept (with_list (Of who) f) (λ b. refl) (shown_of who flat) flat.buffers

pub texts-sels : (who : ℕ) (sels : Selected) (flat : Flat) → HasSameTexts flat (with_sels who sels flat)
unfolding with_sels
texts-sels who sels flat = texts-list who _ flat

pub texts-corner : (who : ℕ) (corner : Corner) (flat : Flat) → HasSameTexts flat (with_corner who corner flat)
unfolding with_corner
texts-corner who corner flat = texts-list who _ flat

-- groups that are committed
committed-own : (v : Bool) (s : Story) → (if v then committed s else s).text ≡ s.text
committed-own true s = committed-text s
committed-own false s = refl

pub texts-commits : (who : ℕ) (flat : Flat) → HasSameTexts flat (commits who flat)
unfolding commits with_buffers
texts-commits who flat = texts-mapped (committed_for who) (λ b. committed-own (is_own who b.story.group) b.story) flat.buffers

-- options that are set
pub texts-set : (r : Result (List Setting) OptionError) (flat : Flat) → HasSameTexts flat (set_or_same r flat)
texts-set (Ok rows) flat = texts-rest _ flat
texts-set (Err e) flat = refl

-- a text that counts as saved
pub texts-saved : (n : ℕ) (flat : Flat) → HasSameTexts flat (saved_in n flat)
unfolding saved_in
texts-saved n flat = kept-texts n marked_as_saved (λ b. committed-text b.story) flat

-- events that are due, and those that memory was wanting for
pub texts-noted : (event : HookEvent) (flat : Flat) → HasSameTexts flat (noted event flat)
texts-noted event flat = texts-rest _ flat

pub texts-left : (mode : Mode) (who : ℕ) (flat : Flat) → HasSameTexts flat (mode_left mode who flat)
texts-left Normal who flat = refl
texts-left Insert who flat = texts-noted _ flat
texts-left Prompt who flat = texts-noted _ flat

pub texts-wanting : (full new : Flat) → WantsEvents full new → HasSameTexts full new
texts-wanting full new w = ap texts_of w.lacks.is ∙ texts-rest _ full

-- a client that is shown another buffer, one that comes, and one that goes
pub texts-shows : (who n : ℕ) (flat : Flat) → HasSameTexts flat (shows who n flat)
unfolding shows
texts-shows who n flat = texts-kept (listed_for (Of who)) (λ b. refl) n flat.buffers

pub texts-joined : (who : ℕ) (flat : Flat) → HasSameTexts flat (joined_by who flat)
unfolding joined_by
texts-joined who flat = texts-kept (listed_for (Of who)) (λ b. refl) (lowest flat.buffers) flat.buffers

pub texts-gone : (who : ℕ) (flat : Flat) → HasSameTexts flat (left_by_client who flat)
unfolding left_by_client
texts-gone who flat = texts-mapped (left_behind who) (λ b. committed-own (is_own who b.story.group) b.story) flat.buffers
