-- The laws of headers, records and files.
use Rattle.raf_format.specs.Cipher.{Cipher, IsLawful}
use Rattle.raf_format.specs.Laws.{AreLawful}
use Rattle.raf_format.proofs.Headers.{says_one}
use Rattle.raf_format.proofs.Opened.{stands, one_answer, opens_of, opens_one}

pub are_lawful : (C : Cipher) → IsLawful C → AreLawful C
are_lawful C lawful = record {
  one_header = says_one;
  stands = λ t l chunk_key id r index. stands C lawful t l chunk_key id r index;
  one_chunk = λ t l chunk_key id r index o. one_answer C lawful t l chunk_key id r index o;
  opens = λ key b h. opens_of C lawful key b h;
  one_file = λ key b F G. opens_one C lawful key b F G;
}
