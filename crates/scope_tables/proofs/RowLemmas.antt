-- What keys, words and names stand for after one was set.
use Rattle.std.proofs.Common.{◌≡◌, ℕ, eqb, ◌&&◌, List, true, false, Some, refl, ap, sym, ◌∙◌}
use Rattle.std.specs.Prelude.{option_map}
use Rattle.std.specs.Str.{bytes_eq}
use Rattle.std.proofs.lemmas.Bool.{eq-eqb, eqb-true, and_from, and_parts, false≢true}
use Rattle.std.proofs.lemmas.Slice.Eq.{bytes_eq-Decides}
use Rattle.tables.proofs.TableLemmas.{find-put_same, find-put_other}
use Rattle.key_names.specs.declared.key.Key.{Key}
use Rattle.scope_options.specs.declared.scope.Scope.{Scope}
use Rattle.scope_options.specs.declared.scope.Scope.TheVariants.{Global, Buffer, Window}
use Rattle.scope_options.specs.Scopes.{is_same_scope}
use Rattle.scope_tables.specs.declared.aliases.Alias.{Alias}
use Rattle.scope_tables.specs.declared.definitions.Definition.{Definition}
use Rattle.scope_tables.specs.declared.definitions.ParameterCount.{ParameterCount}
use Rattle.scope_tables.specs.declared.maps.KeyMap.{KeyMap}
use Rattle.scope_tables.specs.declared.maps.Mode.{Mode}
use Rattle.scope_tables.specs.declared.maps.Mode.TheVariants.{Normal, Insert, Prompt}
use Rattle.scope_tables.specs.Keys.{is_same_key}
use Rattle.scope_tables.specs.Maps.{is_same_mode, is_map, key_map, keys_at, with_map}
use Rattle.scope_tables.specs.Aliases.{is_alias, alias_row, command_at, with_alias}
use Rattle.scope_tables.specs.Definitions.{is_definition_of, definition, definition_of, with_definition}
use Rattle.scope_tables.proofs.KeyLemmas.{key-same, key-true}

scope-same : (s : Scope) → is_same_scope s s ≡ true
scope-same Global = refl
scope-same (Buffer m) = eq-eqb m m refl
scope-same (Window k m) = and_from (eqb k k) (eqb m m) (eq-eqb k k refl) (eq-eqb m m refl)

scope-true : (a b : Scope) → is_same_scope a b ≡ true → a ≡ b
scope-true Global Global h = refl
scope-true Global (Buffer n) h = absurd (false≢true h)
scope-true Global (Window l n) h = absurd (false≢true h)
scope-true (Buffer m) Global h = absurd (false≢true h)
scope-true (Buffer m) (Buffer n) h = ap Buffer (eqb-true m n h)
scope-true (Buffer m) (Window l n) h = absurd (false≢true h)
scope-true (Window k m) Global h = absurd (false≢true h)
scope-true (Window k m) (Buffer n) h = absurd (false≢true h)
scope-true (Window k m) (Window l n) h =
    let parts = and_parts (eqb k l) (eqb m n) h in
    ap (λ x. Window x m) (eqb-true k l parts.0) ∙ ap (λ x. Window l x) (eqb-true m n parts.1)

mode-same : (m : Mode) → is_same_mode m m ≡ true
mode-same Normal = refl
mode-same Insert = refl
mode-same Prompt = refl

mode-true : (a b : Mode) → is_same_mode a b ≡ true → a ≡ b
mode-true Normal Normal h = refl
mode-true Insert Insert h = refl
mode-true Prompt Prompt h = refl
mode-true Normal Insert h = absurd (false≢true h)
mode-true Normal Prompt h = absurd (false≢true h)
mode-true Insert Normal h = absurd (false≢true h)
mode-true Insert Prompt h = absurd (false≢true h)
mode-true Prompt Normal h = absurd (false≢true h)
mode-true Prompt Insert h = absurd (false≢true h)

text-same : (text : List ℕ) → bytes_eq text text ≡ true
text-same text = (bytes_eq-Decides text text).1 refl

text-true : (a b : List ℕ) → bytes_eq a b ≡ true → a ≡ b
text-true a b h = (bytes_eq-Decides a b).0 h

-- maps
is_map-same : (scope : Scope) (mode : Mode) (key : Key) (keys : List Key) → is_map scope mode key (key_map scope mode key keys) ≡ true
is_map-same scope mode key keys =
    and_from (is_same_scope scope scope && is_same_mode mode mode) (is_same_key key key) (and_from (is_same_scope scope scope) (is_same_mode mode mode) (scope-same scope) (mode-same mode)) (key-same key)

is_map-apart : (scope other : Scope) (mode another_mode : Mode) (key another : Key) (keys : List Key) (row : KeyMap) → is_map other another_mode another (key_map scope mode key keys) ≡ false → is_map scope mode key row ≡ true → is_map other another_mode another row ≡ false
is_map-apart scope other mode another_mode key another keys row apart here =
    let all = and_parts (is_same_scope row.scope scope && is_same_mode row.mode mode) (is_same_key row.key key) here in
    let parts = and_parts (is_same_scope row.scope scope) (is_same_mode row.mode mode) all.0 in
    ap (λ s. is_same_scope s other && is_same_mode row.mode another_mode && is_same_key row.key another) (scope-true row.scope scope parts.0)
    ∙ ap (λ m. is_same_scope scope other && is_same_mode m another_mode && is_same_key row.key another) (mode-true row.mode mode parts.1)
    ∙ ap (λ k. is_same_scope scope other && is_same_mode mode another_mode && is_same_key k another) (key-true row.key key all.1)
    ∙ apart

pub map-same : (scope : Scope) (mode : Mode) (key : Key) (keys : List Key) (maps : List KeyMap) → keys_at mode key (with_map scope mode key keys maps) scope ≡ Some keys
map-same scope mode key keys maps =
    ap (option_map (λ (m : KeyMap). m.keys)) (find-put_same (is_map scope mode key) (key_map scope mode key keys) maps (is_map-same scope mode key keys))

pub map-other : (scope other : Scope) (mode another_mode : Mode) (key another : Key) (keys : List Key) (maps : List KeyMap) → is_map other another_mode another (key_map scope mode key keys) ≡ false →
    keys_at another_mode another (with_map scope mode key keys maps) other ≡ keys_at another_mode another maps other
map-other scope other mode another_mode key another keys maps apart =
    ap (option_map (λ (m : KeyMap). m.keys)) (find-put_other (is_map scope mode key) (is_map other another_mode another) (key_map scope mode key keys) maps (λ row here. is_map-apart scope other mode another_mode key another keys row apart here) apart)

-- aliases
is_alias-same : (scope : Scope) (word command : List ℕ) → is_alias scope word (alias_row scope word command) ≡ true
is_alias-same scope word command = and_from (is_same_scope scope scope) (bytes_eq word word) (scope-same scope) (text-same word)

is_alias-apart : (scope other : Scope) (word another command : List ℕ) (row : Alias) → is_alias other another (alias_row scope word command) ≡ false → is_alias scope word row ≡ true → is_alias other another row ≡ false
is_alias-apart scope other word another command row apart here =
    let parts = and_parts (is_same_scope row.scope scope) (bytes_eq row.word word) here in
    ap (λ s. is_same_scope s other && bytes_eq row.word another) (scope-true row.scope scope parts.0)
    ∙ ap (λ w. is_same_scope scope other && bytes_eq w another) (text-true row.word word parts.1)
    ∙ apart

pub alias-same : (scope : Scope) (word command : List ℕ) (aliases : List Alias) → command_at word (with_alias scope word command aliases) scope ≡ Some command
alias-same scope word command aliases =
    ap (option_map (λ (a : Alias). a.command)) (find-put_same (is_alias scope word) (alias_row scope word command) aliases (is_alias-same scope word command))

pub alias-other : (scope other : Scope) (word another command : List ℕ) (aliases : List Alias) → is_alias other another (alias_row scope word command) ≡ false →
    command_at another (with_alias scope word command aliases) other ≡ command_at another aliases other
alias-other scope other word another command aliases apart =
    ap (option_map (λ (a : Alias). a.command)) (find-put_other (is_alias scope word) (is_alias other another) (alias_row scope word command) aliases (λ row here. is_alias-apart scope other word another command row apart here) apart)

-- definitions
pub definition-same : (name : List ℕ) (allowed : ParameterCount) (commands : List ℕ) (rows : List Definition) → definition_of name (with_definition name allowed commands rows) ≡ Some (definition name allowed commands)
definition-same name allowed commands rows = find-put_same (is_definition_of name) (definition name allowed commands) rows (text-same name)

pub definition-other : (name another : List ℕ) (allowed : ParameterCount) (commands : List ℕ) (rows : List Definition) → is_definition_of another (definition name allowed commands) ≡ false →
    definition_of another (with_definition name allowed commands rows) ≡ definition_of another rows
definition-other name another allowed commands rows apart =
    find-put_other (is_definition_of name) (is_definition_of another) (definition name allowed commands) rows (λ row here. ap (λ n. bytes_eq n another) (text-true row.name name here) ∙ apart) apart
