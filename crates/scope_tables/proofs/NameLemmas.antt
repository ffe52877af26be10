-- Names of hooks are one exactly where their texts are.
use Rattle.std.proofs.Common.{◌≡◌, true, Some, refl, ap, sym, ◌∙◌}
use Rattle.std.proofs.lemmas.Slice.Eq.{bytes_eq-Decides}
use Rattle.scope_tables.specs.declared.names.HookName.{HookName}
use Rattle.scope_tables.specs.declared.names.HookName.TheVariants.{NormalKey, InsertKey, InsertChar, ModeChange, BufCreate, BufOpenFile, BufClose, BufWritePre, BufWritePost, WinDisplay, GlobalSetOption, BufSetOption, WinSetOption, ClientCreate, ClientClose, RegisterModified}
use Rattle.scope_tables.specs.Names.{name_text, hook_named, is_same_name}

pub read-back : (name : HookName) → hook_named (name_text name) ≡ Some name
read-back NormalKey = refl
read-back InsertKey = refl
read-back InsertChar = refl
read-back ModeChange = refl
read-back BufCreate = refl
read-back BufOpenFile = refl
read-back BufClose = refl
read-back BufWritePre = refl
read-back BufWritePost = refl
read-back WinDisplay = refl
read-back GlobalSetOption = refl
read-back BufSetOption = refl
read-back WinSetOption = refl
read-back ClientCreate = refl
read-back ClientClose = refl
read-back RegisterModified = refl

pub name-same : (name : HookName) → is_same_name name name ≡ true
name-same name = (bytes_eq-Decides (name_text name) (name_text name)).1 refl

pub name-true : (a b : HookName) → is_same_name a b ≡ true → a ≡ b
name-true a b h =
    let texts : name_text a ≡ name_text b = (bytes_eq-Decides (name_text a) (name_text b)).0 h in
    let both : Some a ≡ Some b = sym (read-back a) ∙ ap hook_named texts ∙ read-back b in
    cc
