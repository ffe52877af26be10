-- Which hooks are found, one hook on, and of hooks of which some were removed.
use Rattle.std.proofs.Common.{◌≡◌, ℕ, ◌+◌, ◌<◌, ◌&&◌, ◌||◌, Bool, true, false, not, cond, List, [], ◌∷◌, ◌++◌, length, map, drop, get_or, append_assoc, Some, None, refl, ap, sym, ◌∙◌}
use Rattle.std.specs.Prelude.{find, filter, option_map}
use Rattle.std.proofs.lemmas.List.{drop_more}
use Rattle.std.proofs.lemmas.Bool.{false≢true}
use Rattle.tables.proofs.TableLemmas.{by_test}
use Rattle.scope_options.specs.declared.scope.Scope.{Scope}
use Rattle.scope_options.specs.Scopes.{is_same_scope}
use Rattle.scope_tables.specs.declared.hooks.HookRef.{HookRef}
use Rattle.scope_tables.specs.declared.names.HookName.{HookName}
use Rattle.scope_options.specs.declared.scope.Scope.TheVariants.{Global, Buffer, Window}
use Rattle.scope_tables.specs.Names.{is_same_name}
use Rattle.scope_tables.specs.Whole.{is_whole}
use Rattle.scope_tables.specs.Hooks.{NumberedHook, ref_of, is_heard, heard_at, hooks_for, is_ref, hook_at, without_hook, is_awaited}

find-without : {A : Type 0} (p : A → Bool) (xs : List A) → find p (filter (λ x. not (p x)) xs) ≡ None
find-without p [] = refl
find-without p (x ∷ xs) =
    by_test (λ b. b ≡ p x → find p (cond (not b) (x ∷ filter (λ y. not (p y)) xs) (filter (λ y. not (p y)) xs)) ≡ None) (p x)
    (λ _ _. find-without p xs)
    (λ _ e. ap (λ b. cond b (Some x) (find p (filter (λ y. not (p y)) xs))) (sym e) ∙ find-without p xs)
    refl

find-others : {A : Type 0} (p q : A → Bool) (xs : List A) → ((x : A) → q x ≡ true → p x ≡ false) → find q (filter (λ x. not (p x)) xs) ≡ find q xs
find-others p q [] apart = refl
find-others p q (x ∷ xs) apart =
    by_test (λ b. b ≡ p x → find q (cond (not b) (x ∷ filter (λ y. not (p y)) xs) (filter (λ y. not (p y)) xs)) ≡ cond (q x) (Some x) (find q xs)) (p x)
    (λ _ e. find-others p q xs apart ∙ by_test (λ b. b ≡ q x → find q xs ≡ cond b (Some x) (find q xs)) (q x) (λ _ f. absurd (false≢true (sym (apart x (sym f)) ∙ sym e))) (λ _ _. refl) refl)
    (λ _ _. ap (λ rest. cond (q x) (Some x) rest) (find-others p q xs apart))
    refl

pub hook-removed : (at : HookRef) (held : List NumberedHook) → hook_at at (without_hook at held) ≡ None
hook-removed at held = ap (option_map (λ (h : NumberedHook). h.hook)) (find-without (is_ref at) held)

pub hook-others : (at other : HookRef) (held : List NumberedHook) → ((h : NumberedHook) → is_ref other h ≡ true → is_ref at h ≡ false) → hook_at other (without_hook at held) ≡ hook_at other held
hook-others at other held apart = ap (option_map (λ (h : NumberedHook). h.hook)) (find-others (is_ref at) (is_ref other) held apart)

map-cond : {A B : Type 0} (f : A → B) (b : Bool) (x : A) (xs : List A) → map f (cond b (x ∷ xs) xs) ≡ cond b (f x ∷ map f xs) (map f xs)
map-cond f true x xs = refl
map-cond f false x xs = refl

-- the hooks that are heard of those that are left, one hook on
heard-drop : (name : HookName) (parameter : List ℕ) (scope : Scope) (hooks : List NumberedHook) (i : ℕ) (h : NumberedHook) (b : Bool) → i < length hooks → h ≡ get_or hooks i h → b ≡ (is_same_scope h.scope scope && is_heard name parameter h.hook) →
    heard_at name parameter (drop i hooks) scope ≡ cond b (ref_of h ∷ heard_at name parameter (drop (i + 1) hooks) scope) (heard_at name parameter (drop (i + 1) hooks) scope)
heard-drop name parameter scope hooks i h b inside at is =
    let test : NumberedHook → Bool = λ k. is_same_scope k.scope scope && is_heard name parameter k.hook in
    let rest : List NumberedHook = filter test (drop (i + 1) hooks) in
    ap (λ hs. heard_at name parameter hs scope) (drop_more hooks i h inside ∙ ap (λ x. x ∷ drop (i + 1) hooks) (sym at))
    ∙ ap (λ t. map ref_of (cond t (h ∷ rest) rest)) (sym is)
    ∙ map-cond ref_of b h rest

pub heard-not : (name : HookName) (parameter : List ℕ) (scope : Scope) (hooks : List NumberedHook) (i : ℕ) (h : NumberedHook) (b : Bool) → i < length hooks → h ≡ get_or hooks i h → b ≡ (is_same_scope h.scope scope && is_heard name parameter h.hook) → b ≡ false →
    (found : List HookRef) → found ++ heard_at name parameter (drop (i + 1) hooks) scope ≡ found ++ heard_at name parameter (drop i hooks) scope
heard-not name parameter scope hooks i h b inside at is fails found =
    let rest : List HookRef = heard_at name parameter (drop (i + 1) hooks) scope in
    ap (λ rs. found ++ rs) (sym (heard-drop name parameter scope hooks i h b inside at is ∙ ap (λ t. cond t (ref_of h ∷ rest) rest) fails))

pub heard-more : (name : HookName) (parameter : List ℕ) (scope : Scope) (hooks : List NumberedHook) (i : ℕ) (h : NumberedHook) (b : Bool) → i < length hooks → h ≡ get_or hooks i h → b ≡ (is_same_scope h.scope scope && is_heard name parameter h.hook) → b ≡ true →
    (found now : List HookRef) → now ≡ found ++ ref_of h ∷ [] → now ++ heard_at name parameter (drop (i + 1) hooks) scope ≡ found ++ heard_at name parameter (drop i hooks) scope
heard-more name parameter scope hooks i h b inside at is holds found now pushed =
    let rest : List HookRef = heard_at name parameter (drop (i + 1) hooks) scope in
    ap (λ rs. rs ++ rest) pushed ∙ append_assoc found (ref_of h ∷ []) rest
    ∙ ap (λ rs. found ++ rs) (sym (heard-drop name parameter scope hooks i h b inside at is ∙ ap (λ t. cond t (ref_of h ∷ rest) rest) holds))

or-first : (a b : Bool) → (a || b) ≡ false → a ≡ false
or-first true b e = absurd (false≢true (sym e))
or-first false b e = refl

or-second : (a b : Bool) → (a || b) ≡ false → b ≡ false
or-second true b e = absurd (false≢true (sym e))
or-second false b e = e

middle-fails : (a b c : Bool) → b ≡ false → (a && (b && c)) ≡ false
middle-fails true b c e = ap (λ t. t && c) e
middle-fails false b c e = refl

heard-none : (name : HookName) (parameter : List ℕ) (scope : Scope) (hooks : List NumberedHook) → is_awaited name hooks ≡ false → heard_at name parameter hooks scope ≡ []
heard-none name parameter scope [] e = refl
heard-none name parameter scope (h ∷ hs) e =
    let rest : List NumberedHook = filter (λ k. is_same_scope k.scope scope && is_heard name parameter k.hook) hs in
    ap (λ t. map ref_of (cond t (h ∷ rest) rest)) (middle-fails (is_same_scope h.scope scope) (is_same_name h.hook.name name) (is_whole h.hook.pattern parameter) (or-first _ _ e))
    ∙ heard-none name parameter scope hs (or-second (is_same_name h.hook.name name) _ e)

-- an event of a name that no hook has is heard by none
pub unawaited : (buffer client : ℕ) (name : HookName) (parameter : List ℕ) (hooks : List NumberedHook) → is_awaited name hooks ≡ false → hooks_for buffer client name parameter hooks ≡ []
unawaited buffer client name parameter hooks e =
    ap (λ fs. fs ++ heard_at name parameter hooks (Buffer buffer) ++ heard_at name parameter hooks (Window client buffer)) (heard-none name parameter Global hooks e)
    ∙ ap (λ fs. fs ++ heard_at name parameter hooks (Window client buffer)) (heard-none name parameter (Buffer buffer) hooks e)
    ∙ heard-none name parameter (Window client buffer) hooks e
