use Rattle.dsse.proofs.Encodings.{pae_injective}
use Rattle.dsse.proofs.laws.encodings_differ.Goals as goal

pub returns : goal.returns
returns c = λ type_a payload_a type_b payload_b low_a low_pa low_b low_pb same.
    pae_injective type_a payload_a type_b payload_b low_a low_pa low_b low_pb same
