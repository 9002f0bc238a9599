use Rattle.slh_ring.proofs.TextsBack.{path_read, text_back, texts_differ}
use Rattle.slh_ring.proofs.laws.texts_are_read_back.Goals as goal

pub returns : goal.returns
returns c = record {
  back = text_back;
  path = path_read;
  differ = texts_differ;
}
