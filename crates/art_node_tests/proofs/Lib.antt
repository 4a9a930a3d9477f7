mod ByteWidths
