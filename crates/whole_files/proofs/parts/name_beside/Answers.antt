use Rattle.std.proofs.Common.{List, ℕ, codes, string_bytes, subst, sym}
use Rattle.whole_files.specs.Parts.{EndsIn}
use Rattle.whole_files.proofs.Ends.{behind}
use Rattle.whole_files.proofs.parts.name_beside.Goals as goal

pub returns : goal.returns
returns c =
    behind (string_bytes c.push.new.self) c.as_str.result.now (string_bytes c.push_str.new.self) (codes ".part")
    c.in_ok-push_str.ensures.bytes
    (subst (λ (t : List ℕ). EndsIn (codes ".part") t) (sym c.as_str.ensures.value) c.in_ok-digits.ensures)
