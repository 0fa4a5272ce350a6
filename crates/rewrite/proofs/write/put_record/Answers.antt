use Rattle.rewrite.proofs.write.put_record.Goals as goal

pub returns : goal.returns
returns c = rw (c.put_fields.ensures, c.encode_record-f.ensures)
