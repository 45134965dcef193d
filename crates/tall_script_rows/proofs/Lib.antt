mod FromBytes
