-- The laws of signatures, values and bookings hold.
use Rattle.signature.specs.Laws.{Laws}
use Rattle.signature.proofs.Heads.{has_kind, args_same, kind_of_head}
use Rattle.signature.proofs.LawfulFacts.{sig_facts, dense}
use Rattle.signature.proofs.PartFacts.{part_given, part_refused_16, begins_only}
use Rattle.signature.proofs.SignatureBack.{signature_is, is_signature}
use Rattle.signature.proofs.Values.{value_code, value_was, booking_lawful, lawful_booking}

pub laws : Laws
laws = record {
  signature = λ ws sig. (signature_is ws sig, is_signature ws sig);
  value_read = λ sig d k v rest h l. value_code sig h d rest l;
  value_was = λ sig d k ws v rest e. value_was sig d k ws (v, rest) e;
  booking = λ sig ws v. (booking_lawful sig ws v, lawful_booking sig ws v);
  head = λ sig k c ks e. (has_kind sig k c ks e, args_same sig k c ks e);
  head_of = kind_of_head;
  consecutive = λ sig signed k c ks e. dense sig (sig_facts sig signed) k c ks e;
  part = part_given;
  part_16 = part_refused_16;
  part_only = λ v u w place a b. begins_only a b;
}
