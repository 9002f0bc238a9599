use Rattle.std.proofs.Common.{◌≡◌, ◌++◌, drop, map}
use Rattle.json.specs.Tree.{items_tokens}
use Rattle.dsse.specs.Said.{said_by}
use Rattle.dsse.specs.Writing.{signatures_json}
use Rattle.dsse.proofs.writing.write_signatures.Given as goal

abbrev pub invariant-loop-signature : goal.invariant-loop-signature
invariant-loop-signature l = record {
  before : l.writer.before ≡ l.initial.writer.before;
  tokens
      : l.writer.tokens ++ items_tokens (signatures_json (map said_by (drop l.signature-index l.signatures)))
      ≡ l.initial.writer.tokens ++ items_tokens (signatures_json (map said_by l.signatures));
}
