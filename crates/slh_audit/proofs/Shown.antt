-- Nodes of the forest by their height.
use Rattle.std.proofs.Common.{◌≡◌, ◌↔◌, ℕ, zero, suc, ◌<◌, ◌≤◌, Bool, IsTrue, arith}
use Rattle.std.proofs.Common.{subst, sym}
use Rattle.std.specs.Bool.{Decides, one_answer}
use Rattle.slh_audit.specs.Evidence.{shows}
use Rattle.slh_audit.specs.declared.evidence.Evidence.{Evidence}
use Rattle.slh_audit.proofs.Meaning.{Dispute, IsShown, ForsNodeShows, shows_means}
use Rattle.slh_audit.specs.declared.evidence.Evidence.TheVariants.{ForsNode}
use Rattle.slh_core.specs.Digits.{digits}

pub fors_node_shown : (D : Dispute) (b : Bool) (i z : ℕ) → i < D.k → 1 ≤ z → z ≤ D.a
    → IsTrue b ↔ ForsNodeShows D.K D.sk D.t D.l D.a D.forest (digits D.md D.a D.k) i z
    → IsTrue b ↔ IsShown D (ForsNode i z)
unfolding IsShown
fors_node_shown D b i zero below low high tells = absurd (omega arith)
fors_node_shown D b i (suc z) below low high tells =
    ((λ t. (below, high, tells.0 t)), (λ shows. tells.1 shows.2))

pub fors_node_there : (D : Dispute) (i z : ℕ) → IsShown D (ForsNode i z) → (i < D.k) × (z ≤ D.a)
unfolding IsShown
fors_node_there D i zero shows = (shows.0, omega arith)
fors_node_there D i (suc z) shows = (shows.0, shows.1)

-- an answer that is another one's says what it says
pub says : {P : Type 0} (b c : Bool) → b ≡ c → Decides c P → Decides b P
says {P} b c same means = subst (λ (x : Bool). Decides x P) (sym same) means

-- an answer that says whether evidence shows is the test's
pub told : (D : Dispute) (e : Evidence) (b : Bool) → Decides b (IsShown D e) → b ≡ shows D e
told D e b tells = one_answer b (shows D e) tells (shows_means D e)
