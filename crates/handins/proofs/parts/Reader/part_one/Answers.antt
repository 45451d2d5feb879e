use Rattle.std.proofs.Common.{◌≡◌, ◌≤◌, length, get_or, take, drop, ap, ◌∙◌, arith}
use Rattle.std.proofs.lemmas.List.{length-drop, length-take-le}
use Rattle.std.specs.Int.Digits.{number_from_digits}
use Rattle.handins.proofs.Headers.{header_at, header_map}
use Rattle.handins.proofs.parts.Reader.part_one.Goals as goal

pub returns-clause-fields : goal.returns-clause-fields
returns-clause-fields c =
    let bytes = c.args.self.now.bytes.now in
    let h = c.in_ok-header.header.now in
    let read = c.in_ok-header.ensures in
    let more = c.in_ok-requests.ensures in
    let is : h ≡ take 13 bytes = read.taken ∙ ap (λ p. take 13 (drop p bytes)) c.requires in
    let whole : 13 ≤ length bytes = omega (arith, c.take.new.self.within, read.place, ap length read.bytes, c.requires) in
    let long : length h ≡ 13 = ap length is ∙ length-take-le 13 bytes whole in
    let at = header_at bytes h is long in
    let count = c.from.ensures ∙ at 4 (omega arith) in
    let place : c.take.new.self.place ≡ 13 = omega (arith, read.place, c.requires) in
    let requests = more.taken ∙ (λ k. take (count k) (drop (place k) (read.bytes k))) in
    let map = c.big_endian.ensures ∙ ap (number_from_digits 256) (header_map bytes h is long) in
    record {
      fields = λ k. record { blocks = at 1 (omega arith) k; size = at 2 (omega arith) k; initial = map k; requests = requests k };
      time = at 3 (omega arith);
      count = ap length requests ∙ length-take-le (get_or bytes 4 0) (drop 13 bytes) (omega (arith, length-drop 13 bytes, c.take-2.new.self.within, more.place, ap length more.bytes, ap length read.bytes, place, count));
    }
